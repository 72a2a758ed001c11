-- The pairs of a merge (document 02, 2.9: the shared tides of two books that are joined) as text: each on a line of its own, the tide's number in
-- the first study and its number in the second. Assumes nothing.
use Rattle.std.specs.Prelude.{ℕ, zero, suc, cond, List, [], ◌∷◌, ◌++◌, ltb, eqb, length, Result, Ok, Err, Option, Some, None}
use Rattle.narrowing.specs.Narrowing.{narrowed}
use Rattle.text_words.specs.declared.Cursor.{Cursor}
use Rattle.text_words.specs.declared.Word.{Word}
use Rattle.text_words.specs.declared.Word.TheVariants as WordCase
use Rattle.text_words.specs.declared.NumeralError.{NumeralError}
use Rattle.text_words.specs.declared.NumeralError.TheVariants as NumeralErrorCase
use Rattle.text_words.specs.declared.WordError.{WordError}
use Rattle.text_words.specs.Words.{newlines, next_of}
use Rattle.merge_text.specs.declared.Fault.{Fault}
use Rattle.merge_text.specs.declared.Fault.TheVariants as FaultCase
use Rattle.merge_text.specs.declared.pairs.Pair.{Pair}
use Rattle.merge_text.specs.declared.pairs.WrongLine.{WrongLine}

-- ---- one pair

-- a line, and what is wrong there
abbrev pub wrong_at : ℕ → Fault → Result (Option Pair) WrongLine
wrong_at l f = Err (record { line = l; fault = f })

-- a word that is no number
abbrev pub fault_of : NumeralError → Fault
fault_of NumeralErrorCase.NotANumber = FaultCase.NotANumber
fault_of NumeralErrorCase.TooLarge = FaultCase.TooLarge

-- what stands on line l, where line `line` has one number so far: on another line it comes too late
abbrev pub on_line : ℕ → ℕ → Result (Option Pair) WrongLine → Result (Option Pair) WrongLine
on_line line l s = cond (eqb l line) s (wrong_at line FaultCase.Missing)

-- the second word of a pair, after tide i of the first study on this line. 255, which is no tide's number, stands for every greater number
abbrev pub pair_from : ℕ → ℕ → Result Word WordError → Result (Option Pair) WrongLine
pair_from i line (Ok (WordCase.Number j c)) = on_line line c.line (Ok (Some (record { first = narrowed i; second = narrowed j; after = c })))
pair_from i line (Ok (WordCase.End l)) = wrong_at line FaultCase.Missing
pair_from i line (Err e) = on_line line e.line (wrong_at line (fault_of e.why))

-- the first word after the last pair: a number that begins a pair stands on a later line than the last one's
abbrev pub step_from : List ℕ → ℕ → Result Word WordError → Result (Option Pair) WrongLine
step_from text last (Ok (WordCase.Number i c)) =
    cond (eqb c.line last) (wrong_at last FaultCase.TooMany) (pair_from i c.line (next_of text c))
step_from text last (Ok (WordCase.End l)) = Ok None
step_from text last (Err e) = wrong_at e.line (fault_of e.why)

-- the step from a place on, with the line of the last pair, 0 before the first
unfoldable pub step_of : List ℕ → ℕ → Cursor → Result (Option Pair) WrongLine
step_of text last c = step_from text last (next_of text c)

-- ---- all pairs

-- the numbers in the first study, and those of the same tides in the second
pub record Pairs : Type 0 where
  pub firsts : List ℕ
  pub seconds : List ℕ

-- what was read: pairs, with the last one's line and the place after it; all pairs, at the text's end; or a line and what is wrong there
pub data Reading : Type 0 where
  going : Pairs → ℕ → Cursor → Reading
  ended : Pairs → Reading
  stopped : ℕ → Fault → Reading

-- these pairs, and a step more
abbrev pub taken : Pairs → Result (Option Pair) WrongLine → Reading
taken P (Ok (Some p)) = going (record { firsts = P.firsts ++ (p.first ∷ []); seconds = P.seconds ++ (p.second ∷ []) }) p.after.line p.after
taken P (Ok None) = ended P
taken P (Err w) = stopped w.line w.fault

-- a step more, where the reading still goes on
abbrev pub further : List ℕ → Reading → Reading
further text (going P last c) = taken P (step_of text last c)
further text (ended P) = ended P
further text (stopped l f) = stopped l f

-- after n steps from the text's first byte
unfoldable pub steps_of : List ℕ → ℕ → Reading
steps_of text zero = going (record { firsts = []; seconds = [] }) 0 (record { at = 0; line = 1 })
steps_of text (suc n) = further text (steps_of text n)

-- the whole text: with a step for each byte, and one for the end, no reading still goes on. A text above 131,072 bytes is too long; its last whole
-- line is named
unfoldable pub pairs_of : List ℕ → Reading
pairs_of text = cond (ltb 131072 (length text)) (stopped (newlines text) FaultCase.TooLong) (steps_of text (suc (length text)))
