-- The printed sheet (document 01; a count for each user: document 02, 2.7), byte by byte. Assumes nothing.
use Rattle.std.specs.Prelude.{ℕ, zero, suc, ◌+◌, ◌/◌, ◌%◌, cond, ltb, length, take, drop, replicate}
use Prim.Native.Char.{code}
use Prim.Native.String.{String, [] as end, ◌∷◌ as ◌before◌}
use mathlib.Core.List.{List, [], ◌∷◌, ◌++◌, flat_map}
use Rattle.study.specs.declared.BlockRecord.{BlockRecord}
use Rattle.study.specs.Refusals.{Numbered, Reply, value, refusal}
use Rattle.study.specs.declared.Figures.{Figures}
use Rattle.study.specs.Numbers.{number_of}
use Rattle.sheet_text.specs.declared.Text.{Text}

-- the bytes of a text
abbrev pub ascii : String → List ℕ
ascii end = []
ascii (c before s) = code c ∷ ascii s

-- ---- numbers

-- the byte of a digit, 0 to 9
abbrev pub digit : ℕ → ℕ
digit x = 48 + x

-- a number below 10 ^ n, the most significant digit first
unfoldable pub digits : ℕ → ℕ → List ℕ
digits zero x = []
digits (suc n) x = cond (ltb x 10) (digit x ∷ []) (digits n (x / 10) ++ (digit (x % 10) ∷ []))

-- every number of the sheet is below 4,294,967,296 and so below 10 ^ 10
unfoldable pub decimal : ℕ → List ℕ
decimal x = digits 10 x

-- a number with a blank before it
unfoldable pub spaced : ℕ → List ℕ
spaced x = ascii " " ++ decimal x

-- ---- lines

-- one for each of what is numbered n, n + 1, ..
unfoldable pub each_line : {A : Type 0} → (ℕ → A → List ℕ) → ℕ → List A → List ℕ
each_line line n [] = []
each_line line n (x ∷ xs) = line n x ++ each_line line (suc n) xs

-- the first line
unfoldable pub heading : List ℕ
heading = ascii "block centre tides widest\n"

-- of a block: its number, centre, tides and diameter
unfoldable pub line : ℕ → BlockRecord → List ℕ
line n r =
    decimal n ++ ascii " " ++ decimal r.centre ++ ascii " " ++ decimal r.tides ++ ascii " " ++ decimal r.diameter ++ ascii "\n"

-- of the blocks n, n + 1, ..
abbrev pub lines : ℕ → List BlockRecord → List ℕ
lines n rs = each_line line n rs

-- the last line: radius (document 01: reach), widest and each user's withdrawals
unfoldable pub closing : ℕ → ℕ → List ℕ → List ℕ
closing radius widest withdrawn =
    ascii "reach " ++ decimal radius ++ ascii " widest " ++ decimal widest ++ ascii " withdrawn" ++ flat_map spaced withdrawn ++ ascii "\n"

-- ---- the sheet

-- the refusal alone: its number as document 01 gives it
unfoldable pub refused_text : Numbered → List ℕ
refused_text r = ascii "refused " ++ decimal (number_of r) ++ ascii "\n"

-- what is printed of Block's answer, its records and each user's withdrawals: a line for each block, or the refusal alone
abbrev pub sheet_text : Reply Figures → List BlockRecord → List ℕ → List ℕ
sheet_text (value F) records withdrawn = heading ++ lines 1 (take F.blocks records) ++ closing F.radius F.widest withdrawn
sheet_text (refusal r) records withdrawn = refused_text r

-- a text over the front of so many zeros
unfoldable pub over_zeros : ℕ → List ℕ → List ℕ
over_zeros room text = text ++ drop (length text) (replicate room 0)

-- a text by value: its bytes over the front of 2,855 zeros, and its length
unfoldable pub laid_out : List ℕ → Text
laid_out text = record { bytes = over_zeros 2855 text; length = length text }
