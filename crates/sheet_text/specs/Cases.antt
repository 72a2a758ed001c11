-- The sheets that document 01 prints, with a count for each user (document 02, 2.7), and some more. There are no proofs here:
-- CasesProof.antt proves each statement, by computation. Assumes nothing.
use Rattle.std.specs.Prelude.{ℕ, ◌≡◌, [], ◌∷◌, map, length}
use Rattle.study.specs.declared.BlockRecord.{BlockRecord}
use Rattle.study.specs.Refusals.{Reply, number, seven, value, refusal}
use Rattle.study.specs.declared.Figures.{Figures}
use Rattle.sheet_text.specs.Text.{ascii, decimal, heading, sheet_text}

-- block count, radius (document 01: reach), greatest diameter (widest)
abbrev pub figures : ℕ → ℕ → ℕ → Reply Figures
figures c r w = value (record { blocks = c; radius = r; widest = w })

-- centre, tides, diameter
abbrev pub block : ℕ → ℕ → ℕ → BlockRecord
block c t d = record { centre = c; tides = t; diameter = d }

-- the first line has 26 bytes, newline counted
abbrev pub HeadingLength : Type 0
HeadingLength = length heading ≡ 26

-- one tide: one block of centre 1
abbrev pub OneTide : Type 0
OneTide =
    sheet_text (figures 1 0 0) (block 1 1 0 ∷ []) (0 ∷ 0 ∷ 0 ∷ 0 ∷ [])
    ≡ ascii "block centre tides widest\n1 1 1 0\nreach 0 widest 0 withdrawn 0 0 0 0\n"

-- the blocks of case 1; a record past the last block is not printed; withdrawals in order of users
abbrev pub TwoBlocks : Type 0
TwoBlocks =
    sheet_text (figures 2 2 4) (block 1 3 2 ∷ block 2 3 4 ∷ block 9 9 9 ∷ []) (65535 ∷ 1 ∷ 20 ∷ 300 ∷ [])
    ≡ ascii "block centre tides widest\n1 1 3 2\n2 2 3 4\nreach 2 widest 4 withdrawn 65535 1 20 300\n"

-- a refusal prints its number alone
abbrev pub TooFew : Type 0
TooFew = sheet_text (refusal (number 25)) [] (0 ∷ 0 ∷ 0 ∷ 0 ∷ []) ≡ ascii "refused 25\n"

-- 7 too, without its pair
abbrev pub TriangleRefused : Type 0
TriangleRefused = sheet_text (refusal (seven 1 2)) [] (0 ∷ 0 ∷ 0 ∷ 0 ∷ []) ≡ ascii "refused 7\n"

-- numbers in decimal
abbrev pub Decimals : Type 0
Decimals =
    map decimal (0 ∷ 9 ∷ 10 ∷ 120 ∷ 255 ∷ 1048575 ∷ 4294967295 ∷ [])
    ≡ ascii "0" ∷ ascii "9" ∷ ascii "10" ∷ ascii "120" ∷ ascii "255" ∷ ascii "1048575" ∷ ascii "4294967295" ∷ []
