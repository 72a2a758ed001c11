-- Texts of pairs and what is read of them, and files joined by hand. There are no proofs here: CasesProof.antt proves the three statements, by
-- computation. Assumes nothing.
use Rattle.std.specs.Prelude.{ℕ, ◌≡◌, List, [], ◌∷◌, map, replicate}
use Prim.Native.String.{String}
use Rattle.lists.specs.Lists.{over}
use Rattle.study.specs.Refusals.{number}
use Rattle.file_format.specs.File.{file_of}
use Rattle.sheet_text.specs.Text.{ascii}
use Rattle.merge.specs.Cases.{counting, tides}
use Rattle.merge_text.specs.declared.Fault.TheVariants.{NotANumber, TooLarge, Missing, TooMany}
use Rattle.merge_text.specs.Pairs.{Reading, ended, stopped, pairs_of}
use Rattle.merge_text.specs.Joining.{done, first_refused, second_refused, wrong_line, merge_refused, join_answer, join_leaves}

-- a text, and what is read of it
pub record PairsCase : Type 0 where
  pub text : String
  pub reading : Reading

infix 10 ◌gives◌
-- a case as it is written below
abbrev pub ◌gives◌ : String → Reading → PairsCase
t gives r = record { text = t; reading = r }

-- all pairs
abbrev pub all : List ℕ → List ℕ → Reading
all firsts seconds = ended (record { firsts = firsts; seconds = seconds })

-- each of them
unfoldable pub cases : List PairsCase
cases =
    -- no pair, one, two; in any order, with empty lines and comments
    ("" gives all [] [])
    ∷ ("# 1 2\n\n" gives all [] [])
    ∷ ("1 2" gives all (1 ∷ []) (2 ∷ []))
    ∷ ("\n7 1 # a\r\n#\n\t3\t12#b\n" gives all (7 ∷ 3 ∷ []) (1 ∷ 12 ∷ []))
    -- above 255, which is no tide's number either
    ∷ ("255 256\n4294967295 1\n" gives all (255 ∷ 255 ∷ []) (255 ∷ 1 ∷ []))
    -- no number, too large a number
    ∷ ("1 2\n3 4x\n" gives stopped 2 NotANumber)
    ∷ ("-1 2\n" gives stopped 1 NotANumber)
    ∷ ("1 2 3x" gives stopped 1 NotANumber)
    ∷ ("1 4294967296\n" gives stopped 1 TooLarge)
    -- one number on its line, whatever follows
    ∷ ("1\n" gives stopped 1 Missing)
    ∷ ("1 # 2\n2\n" gives stopped 1 Missing)
    ∷ ("1 2\n\n3\nx\n" gives stopped 3 Missing)
    ∷ ("1\n4294967296\n" gives stopped 1 Missing)
    -- three
    ∷ ("1 2 3\n" gives stopped 1 TooMany)
    ∷ ("1 2\n3 4 5 6" gives stopped 2 TooMany)
    ∷ []

-- of each text is read what stands beside it
abbrev pub PairsRead : Type 0
PairsRead = map (λ (c : PairsCase). pairs_of (ascii c.text)) cases ≡ map (λ (c : PairsCase). c.reading) cases

-- the file of one tide, of 13 bytes
abbrev pub one : List ℕ
one = file_of (tides ([] ∷ []))

-- several things wrong at once: the first file's refusal, the second's, the text's, the merge's, then 1 for the room
abbrev pub InOrder : Type 0
InOrder =
    join_answer [] [] (ascii "x") 0 ∷ join_answer one [] (ascii "x") 0 ∷ join_answer one one (ascii "x") 0 ∷ join_answer one one [] 0
    ∷ join_answer one one (ascii "1 2") 0 ∷ join_answer one one (ascii "1 1") 12 ∷ join_answer one one (ascii "1 1") 13 ∷ []
    ≡ first_refused (number 8) ∷ second_refused (number 8) ∷ wrong_line 1 NotANumber ∷ merge_refused (number 17)
    ∷ merge_refused (number 16) ∷ merge_refused (number 1) ∷ done 13 ∷ []

-- two tides 5 apart, and three of which the first is the other study's second: the merged file, and a byte past it
abbrev pub OneShared : Type 0
OneShared =
    join_leaves (file_of (counting (1 ∷ 2 ∷ 3 ∷ 4 ∷ []) ([] ∷ (5 ∷ []) ∷ [])))
    (file_of (counting (0 ∷ 10 ∷ 0 ∷ 30 ∷ []) ([] ∷ (3 ∷ []) ∷ (4 ∷ 2 ∷ []) ∷ []))) (ascii "2 1") (replicate 30 170)
    ≡ over (file_of (counting (1 ∷ 12 ∷ 3 ∷ 34 ∷ []) ([] ∷ (5 ∷ []) ∷ (8 ∷ 3 ∷ []) ∷ (9 ∷ 4 ∷ 2 ∷ []) ∷ []))) (replicate 30 170)
