-- Texts and what is said of them. There are no proofs here: CasesProof.antt proves the three statements, by computation. Assumes nothing.
use Prim.Native.String.{String}
use Rattle.std.specs.Prelude.{◌≡◌, List, [], ◌∷◌, ◌++◌, map, replicate}
use Rattle.study.specs.Refusals.{number, seven}
use Rattle.sheet_text.specs.Text.{ascii}
use Rattle.study_text.specs.Packing.{Report, done, refused_at, not_number, too_large, missing, pack_answer, pack_leaves}

-- a text, and what is said of it
pub record TextCase : Type 0 where
  pub text : String
  pub report : Report

infix 10 ◌gives◌
-- a case as it is written below
abbrev pub ◌gives◌ : String → Report → TextCase
t gives a = record { text = t; report = a }

-- lent 14 bytes
unfoldable pub cases : List TextCase
cases =
    -- no tide, and one
    ("1\n1 0\n" gives done 13)
    ∷ ("1 # settings\n1 0\t#\r\n1#" gives done 13)
    -- what is no number, too large, missing
    ∷ ("1\n1 0\n1\n1 x\n" gives not_number 4)
    ∷ ("1\n1 0\n1\n1 4294967296x\n" gives not_number 4)
    ∷ ("1\n1 0\n1\n1 4294967296\n" gives too_large 4)
    ∷ ("1\n1 0\n1\n1 4294967295\n" gives refused_at 4 (number 6))
    ∷ ("" gives missing 1)
    ∷ ("1\n1" gives missing 2)
    ∷ ("1\n1 0\n1\n1\n" gives missing 5)
    -- b's together 120 make b0 so, 121 and b0 = 0 are refused
    ∷ ("1\n2 120" gives done 13)
    ∷ ("1\n2 121" gives refused_at 2 (number 3))
    ∷ ("1\n0 1" gives refused_at 2 (number 3))
    -- refused; numbers above 255 too
    ∷ ("9" gives refused_at 1 (number 2))
    ∷ ("257" gives refused_at 1 (number 2))
    ∷ ("1\n257 0" gives refused_at 2 (number 3))
    ∷ ("1\n1\n257" gives refused_at 3 (number 3))
    ∷ ("1\n1 0\n257" gives refused_at 3 (number 5))
    ∷ ("1 1 0\n1\n1 3\n1 1\n1\n" gives refused_at 5 (seven 1 2))
    -- a duplicate (document 02, 2.8) with its line; 7 before it; none of another setting
    ∷ ("1 1 0\n1\n1 3\n1 3\n0\n" gives refused_at 5 (number 15))
    ∷ ("1 1 0\n1\n1 3\n1 1 0\n" gives refused_at 4 (seven 1 2))
    ∷ ("2 1 0 0\n1\n2 0\n" gives refused_at 4 (number 1))
    -- no room for the file
    ∷ ("1 1 0\n1\n1 3\n" gives refused_at 4 (number 1))
    ∷ []

-- of each text is said what stands beside it
abbrev pub TextCases : Type 0
TextCases = map (λ (c : TextCase). pack_answer (ascii c.text) 14) cases ≡ map (λ (c : TextCase). c.report) cases

-- the file of one tide, and a byte past it
abbrev pub OneTideFile : Type 0
OneTideFile = pack_leaves (ascii "1 1 0 1\n") (replicate 14 170) ≡ 0x55 ∷ 0x02 ∷ 0x20 ∷ 0x40 ∷ (replicate 9 0 ++ (170 ∷ []))

-- b0 = 2 and three settings at 1 (document 02, 2.2): the file has b0 = 3
abbrev pub RaisedFile : Type 0
RaisedFile = pack_leaves (ascii "3 2 1 1 1\n") (replicate 15 170) ≡ 0x55 ∷ 0x00 ∷ 0x60 ∷ 0xc0 ∷ (replicate 8 0 ++ (0x81 ∷ 0x02 ∷ 170 ∷ []))
