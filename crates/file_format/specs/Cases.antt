-- Document 01's "Tides on a line", the cases marked P, as one list of questions and replies; cases of document 02, 2.6, 2.7 and 2.8; and the
-- order of Read's reasons. The questions ask the definitions that the contracts of the calls cite. There are no proofs here: `worked_cases`,
-- `nearest_first`, `old_read`, `by_file`, `valid_studies` and `in_order` of CasesProof.antt prove the statements. Assumes nothing.
use Rattle.std.specs.Prelude.{ℕ, ◌+◌, ◌-◌, ◌≡◌, Bool, true, false, length, get_or, take, replicate}
use mathlib.Core.List.{List, [], ◌∷◌, ◌++◌, map, flat_map}
use Rattle.lists.specs.Lists.{◌among◌, tabulate}
use Rattle.study.specs.Limits.{max_users}
use Rattle.study.specs.declared.BlockRecord.{BlockRecord}
use Rattle.study.specs.declared.Figures.{Figures}
use Rattle.study.specs.Problem.{assignable, blocking}
use Rattle.study.specs.Study.{Tide, Study, Contents, size, problem, Valid}
use Rattle.study.specs.Refusals.{number, seven, Reply, value, refusal, replied, first_of}
use Rattle.study.specs.Calls.{opened, opening, enter_reasons, entering, block_reasons, figures, block_record}
use Rattle.study.specs.Calls.{judge_reasons, Judgement, approval, judgement}
use Rattle.file_format.specs.File.{file_of, decoded, read_reasons}

-- ---- studies

-- tide t of those at these positions, with these settings (1 where the list ends): distance is the difference of positions
unfoldable pub tide_on : List ℕ → List ℕ → ℕ → Tide
tide_on settings positions t =
    let p = get_or positions t 0 in
    record { setting = get_or settings t 1; row = map (λ q. (q - p) + (p - q)) (take t positions) }

-- k, b0, the b's (0 where the list ends), settings and positions
unfoldable pub line : ℕ → ℕ → List ℕ → List ℕ → List ℕ → Study
line k b0 b settings positions =
    record {
      k = k;
      minima = record { b0 = b0; b = tabulate 8 (λ j. get_or b j 0) };
      tides = tabulate (length positions) (tide_on settings positions);
    }

-- where not given, k = 1 and each b is 0
unfoldable pub plain : ℕ → List ℕ → Study
plain b0 positions = line 1 b0 [] [] positions

-- nothing withdrawn
abbrev pub fresh : Study → Contents
fresh S = record { study = S; withdrawals = replicate max_users 0 }

-- ---- questions and replies

-- what a worked case asks
pub data Question : Type 0 where
  -- Block, lent a list and records of n places
  block_of : Study → Question
  -- whether there is an assignment (document 01: filling) at g
  assignable_at : Study → ℕ → Question
  -- Judge, given a list
  judge : Study → List ℕ → Question
  -- Enter, given a setting and a row
  enter : Study → ℕ → List ℕ → Question
  -- Write, and Read of given bytes
  write : Contents → Question
  read : List ℕ → Question

-- what it gets, where nothing refuses it
pub data CaseValue : Type 0 where
  -- Block's figures, list and records
  blocked : Figures → List ℕ → List BlockRecord → CaseValue
  is : Bool → CaseValue
  judged : Judgement → CaseValue
  -- what is held after Enter or Read
  holds : Contents → CaseValue
  file : List ℕ → CaseValue

-- the first reason of the call that holds, or what the call answers and leaves
unfoldable pub reply : Question → Reply CaseValue
reply (block_of S) =
    replied (first_of (block_reasons S (size S) (size S)))
    (blocked (figures S) (blocking (problem S)) (tabulate (figures S).blocks (block_record S)))
reply (assignable_at S g) = value (is (assignable (problem S) g))
reply (judge S list) = replied (first_of (judge_reasons S list)) (judged (judgement S list))
reply (enter S setting row) = replied (first_of (enter_reasons S setting row)) (holds (entering setting row (fresh S)))
reply (write H) = value (file (file_of H))
reply (read s) = replied (first_of (read_reasons s)) (holds (decoded s))

-- a question with the reply that document 01 gives
pub record WorkedCase : Type 0 where
  pub asked : Question
  pub given : Reply CaseValue

infix 10 ◌gives◌
-- a worked case, written as a sentence
abbrev pub ◌gives◌ : Question → Reply CaseValue → WorkedCase
q gives r = record { asked = q; given = r }

-- each question gets the reply that stands beside it
abbrev pub AsGiven : List WorkedCase → Type 0
AsGiven cs = map (λ (c : WorkedCase). reply c.asked) cs ≡ map (λ (c : WorkedCase). c.given) cs

-- block count, radius (document 01: reach), greatest diameter (widest)
abbrev pub figures_of : ℕ → ℕ → ℕ → Figures
figures_of c r w = record { blocks = c; radius = r; widest = w }

-- centre, tides, diameter
abbrev pub record_of : ℕ → ℕ → ℕ → BlockRecord
record_of c t d = record { centre = c; tides = t; diameter = d }

-- ---- the worked cases

-- case 1: six tides, three to a block
unfoldable pub case1 : Study
case1 = plain 3 (2 ∷ 5 ∷ 0 ∷ 1 ∷ 3 ∷ 7 ∷ [])

-- case 2: two settings, one tide of each to a block
unfoldable pub case2 : Study
case2 = line 2 2 (1 ∷ 1 ∷ []) (1 ∷ 2 ∷ 1 ∷ 2 ∷ []) (0 ∷ 1 ∷ 10 ∷ 11 ∷ [])

-- case 3: two tides at one place
unfoldable pub case3 : Study
case3 = plain 2 (2 ∷ 0 ∷ 2 ∷ 4 ∷ [])

-- case 4: three tides in the middle
unfoldable pub case4 : Study
case4 = plain 2 (0 ∷ 10 ∷ 5 ∷ 5 ∷ 5 ∷ [])

-- case 5: three tides at one place
unfoldable pub case5 : Study
case5 = plain 1 (0 ∷ 0 ∷ 0 ∷ [])

-- case 7: two tides at distance 3
unfoldable pub case7 : Study
case7 = plain 1 (0 ∷ 3 ∷ [])

-- the printed sheet's: one tide, k = 1, b0 = 1
unfoldable pub one_tide : Study
one_tide = plain 1 (0 ∷ [])

-- the worked cases of document 01, in its order
unfoldable pub cases : List WorkedCase
cases =
    -- 1: at 3 there is no filling; at 4 there is one again
    (block_of case1 gives value (blocked (figures_of 2 2 4) (1 ∷ 2 ∷ 1 ∷ 1 ∷ 2 ∷ 2 ∷ []) (record_of 1 3 2 ∷ record_of 2 3 4 ∷ [])))
    ∷ (assignable_at case1 3 gives value (is false))
    ∷ (assignable_at case1 4 gives value (is true))
    -- 2
    ∷ (block_of case2 gives value (blocked (figures_of 2 1 1) (1 ∷ 1 ∷ 2 ∷ 2 ∷ []) (record_of 1 2 1 ∷ record_of 3 2 1 ∷ [])))
    -- 3: a division of widest 2 exists
    ∷ (block_of case3 gives value (blocked (figures_of 1 2 4) (1 ∷ 1 ∷ 1 ∷ 1 ∷ []) (record_of 1 4 4 ∷ [])))
    ∷ (judge case3 (1 ∷ 1 ∷ 2 ∷ 2 ∷ []) gives value (judged (approval 2)))
    -- 4
    ∷ (block_of case4 gives value (blocked (figures_of 2 5 5) (1 ∷ 2 ∷ 1 ∷ 1 ∷ 2 ∷ []) (record_of 1 3 5 ∷ record_of 2 2 5 ∷ [])))
    -- 5
    ∷ (block_of case5 gives value (blocked (figures_of 1 0 0) (1 ∷ 1 ∷ 1 ∷ []) (record_of 1 3 0 ∷ [])))
    ∷ (block_of (plain 1 (0 ∷ 5 ∷ [])) gives value (blocked (figures_of 2 0 0) (1 ∷ 2 ∷ []) (record_of 1 1 0 ∷ record_of 2 1 0 ∷ [])))
    -- 6
    ∷ (block_of (plain 3 (0 ∷ 5 ∷ [])) gives refusal (number 25))
    ∷ (block_of (plain 2 (0 ∷ 5 ∷ [])) gives value (blocked (figures_of 1 5 5) (1 ∷ 1 ∷ []) (record_of 1 2 5 ∷ [])))
    -- 7: a third tide
    ∷ (enter case7 1 (1 ∷ 2 ∷ []) gives value (holds (fresh (plain 1 (0 ∷ 3 ∷ 1 ∷ [])))))
    ∷ (enter case7 1 (1 ∷ 4 ∷ []) gives value (holds (fresh (plain 1 (1 ∷ 4 ∷ 0 ∷ [])))))
    ∷ (enter case7 1 (1 ∷ 1 ∷ []) gives refusal (seven 1 2))
    ∷ (enter case7 1 (1 ∷ 5 ∷ []) gives refusal (seven 1 2))
    -- 8, written anew by document 02, 2.7: the empty book with k = 1
    ∷ (write (opening 1) gives value (file (0x55 ∷ 0x00 ∷ 0x20 ∷ 0x40 ∷ replicate 9 0)))
    ∷ (read (0x55 ∷ 0x00 ∷ 0x20 ∷ 0x40 ∷ replicate 9 0) gives value (holds (opening 1)))
    ∷ (read (0x55 ∷ 0x00 ∷ 0x20 ∷ 0x40 ∷ (replicate 8 0 ++ (0x01 ∷ []))) gives refusal (number 11))
    ∷ (read (0x55 ∷ 0x00 ∷ 0x20 ∷ 0x40 ∷ 0x00 ∷ 0x00 ∷ []) gives refusal (number 8))
    -- the file of the printed sheet, anew
    ∷ (write (fresh one_tide) gives value (file (0x55 ∷ 0x02 ∷ 0x20 ∷ 0x40 ∷ replicate 9 0)))
    ∷ []

-- the definitions give what document 01 gives
abbrev pub WorkedCases : Type 0
WorkedCases = AsGiven cases

-- ---- document 02, 2.6

-- lists that the order by block number alone would not give
unfoldable pub nearest : List WorkedCase
nearest =
    -- tide 3 is at 1 from block 2's centre and at 40 from block 1's; by number alone it would be in block 1
    (block_of (plain 2 (0 ∷ 41 ∷ 40 ∷ 40 ∷ []))
    gives value (blocked (figures_of 2 40 40) (1 ∷ 2 ∷ 2 ∷ 1 ∷ []) (record_of 1 2 40 ∷ record_of 2 2 1 ∷ [])))
    -- of the three tides at 40 the last one goes to block 1, which lacks a tide; the one at 1 stays there
    ∷ (block_of (plain 3 (0 ∷ 41 ∷ 40 ∷ 1 ∷ 40 ∷ 40 ∷ []))
    gives value (blocked (figures_of 2 40 40) (1 ∷ 2 ∷ 2 ∷ 1 ∷ 2 ∷ 1 ∷ []) (record_of 1 3 40 ∷ record_of 2 3 1 ∷ [])))
    ∷ []

-- the definitions give these lists
abbrev pub NearestFirst : Type 0
NearestFirst = AsGiven nearest

-- ---- document 02, 2.7: files of mark 54

-- they are still read: case 8 as document 01 has it, the file of its sheet, and one after 65,535 withdrawals, which are user 1's
unfoldable pub old : List WorkedCase
old =
    (read (0x54 ∷ 0x00 ∷ 0x20 ∷ 0x40 ∷ 0x00 ∷ 0x00 ∷ 0x00 ∷ []) gives value (holds (opening 1)))
    ∷ (read (0x54 ∷ 0x00 ∷ 0x20 ∷ 0x40 ∷ 0x00 ∷ 0x00 ∷ 0x01 ∷ []) gives refusal (number 11))
    ∷ (read (0x54 ∷ 0x00 ∷ 0x20 ∷ 0x40 ∷ 0x00 ∷ 0x00 ∷ []) gives refusal (number 8))
    ∷ (read (0x54 ∷ 0x02 ∷ 0x20 ∷ 0x40 ∷ 0x00 ∷ 0x00 ∷ 0x00 ∷ []) gives value (holds (fresh one_tide)))
    ∷ (read (0x54 ∷ 0x00 ∷ 0x20 ∷ 0x7f ∷ 0xff ∷ 0xc0 ∷ 0x00 ∷ [])
    gives value (holds (record { study = opened 1; withdrawals = 65535 ∷ 0 ∷ 0 ∷ 0 ∷ [] })))
    -- and the same of mark 55: 65,535, 1, 2 and 3
    ∷ (read (0x55 ∷ 0x00 ∷ 0x20 ∷ 0x7f ∷ 0xff ∷ 0xc0 ∷ 0x00 ∷ 0x40 ∷ 0x00 ∷ 0x80 ∷ 0x00 ∷ 0xc0 ∷ 0x00 ∷ [])
    gives value (holds (record { study = opened 1; withdrawals = 65535 ∷ 1 ∷ 2 ∷ 3 ∷ [] })))
    ∷ []

-- the definitions give these contents
abbrev pub OldRead : Type 0
OldRead = AsGiven old

-- ---- document 02, 2.8: cases 3, 4 and 5 come in by file

-- the tide that would be their first duplicate is refused, and their files are read; at 0 from a tide of another setting a tide enters
unfoldable pub stored : List WorkedCase
stored =
    (enter (plain 2 (2 ∷ 0 ∷ [])) 1 (0 ∷ 2 ∷ []) gives refusal (number 15))
    ∷ (enter (plain 2 (0 ∷ 10 ∷ 5 ∷ [])) 1 (5 ∷ 5 ∷ 0 ∷ []) gives refusal (number 15))
    ∷ (enter one_tide 1 (0 ∷ []) gives refusal (number 15))
    ∷ (read (file_of (fresh case3)) gives value (holds (fresh case3)))
    ∷ (read (file_of (fresh case4)) gives value (holds (fresh case4)))
    ∷ (read (file_of (fresh case5)) gives value (holds (fresh case5)))
    ∷ (enter (line 2 1 [] (1 ∷ []) (0 ∷ [])) 2 (0 ∷ []) gives value (holds (fresh (line 2 1 [] (1 ∷ 2 ∷ []) (0 ∷ 0 ∷ [])))))
    ∷ []

-- the definitions give these answers
abbrev pub ByFile : Type 0
ByFile = AsGiven stored

-- ---- every study asked about is valid; so its minima have all eight b's and pass reason 3

-- the study that a question asks about
unfoldable pub study_in : Question → List Study
study_in (block_of S) = S ∷ []
study_in (assignable_at S g) = S ∷ []
study_in (judge S list) = S ∷ []
study_in (enter S setting row) = S ∷ []
study_in (write H) = H.study ∷ []
study_in (read s) = []

-- the studies of all worked cases
unfoldable pub studies : List Study
studies = flat_map (λ (c : WorkedCase). study_in c.asked) (cases ++ nearest)

-- each of them is valid
abbrev pub ValidStudies : Type 0
ValidStudies = (S : Study) → S among studies → Valid S

-- ---- the order of Read's reasons

-- two reasons at once: the earlier one counts
unfoldable pub order : List WorkedCase
order =
    -- 8, not 9: one byte, mark wrong
    (read (0x00 ∷ []) gives refusal (number 8))
    -- 9, not 8: a mark beside 55, 11 bytes
    ∷ (read (0x56 ∷ 0x00 ∷ 0x20 ∷ 0x40 ∷ replicate 7 0) gives refusal (number 9))
    -- 8, not 10: mark 55 with 11 bytes, n = 127; 10 with 12 bytes, not 8 for a byte too few
    ∷ (read (0x55 ∷ 0xfe ∷ 0x20 ∷ 0x40 ∷ replicate 7 0) gives refusal (number 8))
    ∷ (read (0x55 ∷ 0xfe ∷ 0x20 ∷ 0x40 ∷ replicate 8 0) gives refusal (number 10))
    -- 8, not 2: mark 55 with 11 bytes, k = 0; 2 with 12 bytes
    ∷ (read (0x55 ∷ 0x00 ∷ 0x00 ∷ 0x40 ∷ replicate 7 0) gives refusal (number 8))
    ∷ (read (0x55 ∷ 0x00 ∷ 0x00 ∷ 0x40 ∷ replicate 8 0) gives refusal (number 2))
    -- 8: mark 55 with the length of mark 54
    ∷ (read (0x55 ∷ 0x00 ∷ 0x20 ∷ 0x40 ∷ 0x00 ∷ 0x00 ∷ 0x00 ∷ []) gives refusal (number 8))
    -- 8: mark 54 with the length of mark 55
    ∷ (read (0x54 ∷ 0x00 ∷ 0x20 ∷ 0x40 ∷ replicate 9 0) gives refusal (number 8))
    -- 9, not 10: mark wrong, n = 127
    ∷ (read (0x00 ∷ 0xfe ∷ 0x20 ∷ 0x40 ∷ 0x00 ∷ 0x00 ∷ []) gives refusal (number 9))
    -- 10, not 2: n = 127, k = 0
    ∷ (read (0x54 ∷ 0xfe ∷ 0x00 ∷ 0x40 ∷ 0x00 ∷ 0x00 ∷ []) gives refusal (number 10))
    -- 2, not 8: k = 0, a byte too many
    ∷ (read (0x54 ∷ 0x00 ∷ 0x00 ∷ 0x40 ∷ 0x00 ∷ 0x00 ∷ 0x00 ∷ []) gives refusal (number 2))
    -- 8, not 3: a byte too few, b0 = 0
    ∷ (read (0x54 ∷ 0x00 ∷ 0x20 ∷ 0x00 ∷ 0x00 ∷ 0x00 ∷ []) gives refusal (number 8))
    -- 3, not 11: b0 = 0, a fill bit set
    ∷ (read (0x54 ∷ 0x00 ∷ 0x20 ∷ 0x00 ∷ 0x00 ∷ 0x00 ∷ 0x01 ∷ []) gives refusal (number 3))
    -- 3, not accepted: b0 = 1 below b1 = 2, which Minima would raise
    ∷ (read (0x54 ∷ 0x00 ∷ 0x20 ∷ 0x40 ∷ 0x00 ∷ 0x01 ∷ 0x00 ∷ []) gives refusal (number 3))
    -- 11, not 5: a fill bit set, tide 1 has setting 2
    ∷ (read (0x54 ∷ 0x02 ∷ 0x20 ∷ 0x40 ∷ 0x00 ∷ 0x00 ∷ 0x11 ∷ []) gives refusal (number 11))
    -- 5, not 7: tide 3 has setting 2, and is at 1 and 1 from two tides at 3
    ∷ (read (0x54 ∷ 0x06 ∷ 0x20 ∷ 0x40 ∷ 0x00 ∷ 0x00 ∷ 0x00 ∷ 0x00 ∷ 0x00 ∷ 0x64 ∷ 0x00 ∷ 0x00 ∷ 0x40 ∷ 0x00 ∷ 0x04 ∷ [])
    gives refusal (number 5))
    -- 7, not 5: tide 3 as before but with setting 1, tide 4 has setting 2
    ∷ (read (0x54 ∷ 0x08 ∷ 0x20 ∷ 0x40 ∷ 0x00 ∷ 0x00 ∷ 0x00 ∷ 0x00 ∷ 0x00 ∷ 0x60 ∷ 0x00 ∷ 0x00 ∷ 0x40 ∷ 0x00 ∷ 0x04
    ∷ 0x80 ∷ 0x00 ∷ 0x08 ∷ 0x00 ∷ 0x00 ∷ 0x80 ∷ 0x00 ∷ 0x08 ∷ [])
    gives refusal (seven 1 2))
    ∷ []

-- the earlier reason counts in each of them
abbrev pub ReadInOrder : Type 0
ReadInOrder = AsGiven order
