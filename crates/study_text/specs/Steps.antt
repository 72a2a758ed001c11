-- What the code's own types say, and the steps of reading numbers. Assumes nothing.
use Rattle.std.specs.Prelude.{ℕ, List, Result, Ok, Err}
use Rattle.study.specs.declared.Refusal.{Refusal}
use Rattle.study_text.specs.declared.TextError.{TextError}
use Rattle.study_text.specs.declared.TextError.TheVariants as TextErrorCase
use Rattle.text_words.specs.declared.Cursor.{Cursor}
use Rattle.study_text.specs.Packing.{error_report, Got, got, stop}

-- a number and the place after it, or what is wrong with it
abbrev pub given_of : Result ℕ TextError → Cursor → Got ℕ
given_of (Ok x) c = got x c
given_of (Err e) c = stop (error_report e)

-- the numbers stand in the lent row
abbrev pub read_of : Result Unit TextError → List ℕ → Cursor → Got (List ℕ)
read_of (Ok _) row c = got row c
read_of (Err e) row c = stop (error_report e)

-- a refusal is that of the line of the last number
abbrev pub at_line : {A : Type 0} → ℕ → Result A Refusal → Result A TextError
at_line l (Ok x) = Ok x
at_line l (Err r) = Err (TextErrorCase.Refused l r)
