-- A refusal's number in code. Assumes nothing.
use Rattle.std.specs.Prelude.{ℕ}
use Rattle.study.specs.Refusals.{Numbered, number, seven, Verdict, accepted, refused}
use Rattle.study.specs.declared.refusals.Number.{Number}
use Rattle.study.specs.declared.refusals.Number.TheVariants.{Alone, Seven}

-- what the code's number says
abbrev pub said_by : Number → Numbered
said_by (Alone n) = number n
said_by (Seven i j) = seven i j

-- document 01's number of a refusal; of 7 without its pair
abbrev pub number_of : Numbered → ℕ
number_of (number n) = n
number_of (seven i j) = 7

-- 0 of an accepted call, else the number of its refusal
abbrev pub refusal_number : Verdict → ℕ
refusal_number accepted = 0
refusal_number (refused r) = number_of r
