-- A study as text: k, the minima b0 and b1 to bk, then each tide's setting and its distances to the earlier tides. The calls that the
-- text makes, in its order, what they come to, and the study file. A tide comes in by Enter; or as measured, where the triangle
-- inequality may fail and a tide may be a duplicate: there all but these is asked. Assumes nothing.
use Rattle.std.specs.Prelude.{ℕ, zero, suc, cond, List, [], ◌∷◌, ◌++◌, ltb, length, drop, get_or, Result, Ok, Err}
use Rattle.lists.specs.Lists.{tabulate}
use Rattle.study.specs.Limits.{max_settings}
use Rattle.study.specs.declared.Minima.{Minima}
use Rattle.study.specs.Study.{Study, Contents, size}
use Rattle.study.specs.Refusals.{Numbered, number, numbered, Verdict, accepted, refused, Reason, first_of}
use Rattle.study.specs.Calls.{open_reasons, opening, minima_reasons, setting_minima, enter_reasons, measured_reasons, entering}
use Rattle.file_format.specs.File.{file_of}
use Rattle.study_text.specs.declared.TextError.{TextError}
use Rattle.study_text.specs.declared.TextError.TheVariants as TextErrorCase
use Rattle.study_text.specs.declared.Rule.{Rule}
use Rattle.study_text.specs.declared.Rule.TheVariants as RuleCase
use Rattle.text_words.specs.declared.Cursor.{Cursor}
use Rattle.text_words.specs.declared.Word.{Word}
use Rattle.text_words.specs.declared.Word.TheVariants as WordCase
use Rattle.text_words.specs.declared.NumeralError.{NumeralError}
use Rattle.text_words.specs.declared.NumeralError.TheVariants as NumeralErrorCase
use Rattle.text_words.specs.declared.WordError.{WordError}
use Rattle.text_words.specs.Words.{newlines, next_of}

-- what is said of a text: the file's length, or a line and what is wrong there
pub data Report : Type 0 where
  done : ℕ → Report
  refused_at : ℕ → Numbered → Report
  not_number : ℕ → Report
  too_large : ℕ → Report
  missing : ℕ → Report
  too_long : ℕ → Report

-- the code's error, by document 01's numbers
abbrev pub error_report : TextError → Report
error_report (TextErrorCase.Refused l r) = refused_at l (numbered r)
error_report (TextErrorCase.NotANumber l) = not_number l
error_report (TextErrorCase.TooLarge l) = too_large l
error_report (TextErrorCase.Missing l) = missing l
error_report (TextErrorCase.TooLong l) = too_long l

-- and its answer
abbrev pub report_of : Result ℕ TextError → Report
report_of (Ok n) = done n
report_of (Err e) = error_report e

-- ---- numbers that must stand next

-- what was read, and the place after it
pub data Got (A : Type 0) : Type 0 where
  got : A → Cursor → Got A
  stop : Report → Got A

-- a word on this line that is no number
abbrev pub no_number : ℕ → NumeralError → Report
no_number l NumeralErrorCase.NotANumber = not_number l
no_number l NumeralErrorCase.TooLarge = too_large l

-- a word where a number must stand
abbrev pub number_from : Result Word WordError → Got ℕ
number_from (Ok (WordCase.Number x c)) = got x c
number_from (Ok (WordCase.End l)) = stop (missing l)
number_from (Err e) = stop (no_number e.line e.why)

-- the number that stands next
unfoldable pub number_of : List ℕ → Cursor → Got ℕ
number_of text c = number_from (next_of text c)

-- go on with what was read, or stop
abbrev pub onward : {A B : Type 0} → Got A → (A → Cursor → Got B) → Got B
onward (got x c) f = f x c
onward (stop t) f = stop t

-- n numbers: one after n - 1
unfoldable pub numbers_of : List ℕ → ℕ → Cursor → Got (List ℕ)
numbers_of text zero c = got [] c
numbers_of text (suc n) c = onward (numbers_of text n c) (λ xs d. onward (number_of text d) (λ x e. got (xs ++ (x ∷ [])) e))

-- ---- Open and Minima

-- after a call, with the place past the last number that it is given
abbrev pub called : Verdict → Contents → Cursor → Got Contents
called accepted H c = got H c
called (refused r) H c = stop (refused_at c.line r)

-- b0, and the b's; those above k are 0
unfoldable pub minima_from : List ℕ → Minima
minima_from xs = record { b0 = get_or xs 0 0; b = tabulate max_settings (λ j. get_or xs (suc j) 0) }

-- Open with the k that stands next
unfoldable pub opening_of : List ℕ → Cursor → Got Contents
opening_of text c = onward (number_of text c) (λ k d. called (first_of (open_reasons k)) (opening k) d)

-- Minima with the numbers that stand next: b0, and a b for each setting
unfoldable pub minima_of : List ℕ → Contents → Cursor → Got Contents
minima_of text H c =
    onward (numbers_of text (suc H.study.k) c)
    (λ xs d. called (first_of (minima_reasons H.study (minima_from xs))) (setting_minima (minima_from xs) H) d)

-- both, from the text's first byte
unfoldable pub head_of : List ℕ → Got Contents
head_of text = onward (opening_of text (record { at = 0; line = 1 })) (minima_of text)

-- ---- tides

-- the reasons by the rule under which the tides come in
abbrev pub tide_reasons : Rule → Study → ℕ → List ℕ → List Reason
tide_reasons RuleCase.Entered S x row = enter_reasons S x row
tide_reasons RuleCase.Measured S x row = measured_reasons S x row

-- the tide that this setting begins
unfoldable pub tide_of : Rule → List ℕ → Contents → ℕ → Cursor → Got Contents
tide_of rule text H x c =
    onward (numbers_of text (size H.study) c)
    (λ row d. called (first_of (tide_reasons rule H.study x row)) (entering x row H) d)

-- what a turn comes to: one more tide, the text's end with its line, or what stops it
pub data Turn : Type 0 where
  going : Contents → Cursor → Turn
  ended : Contents → ℕ → Turn
  stopped : Report → Turn

-- a call's end as a turn: accepted, the text goes on
abbrev pub entered : Got Contents → Turn
entered (got H c) = going H c
entered (stop t) = stopped t

-- a turn by its first word: a tide's setting, the text's end, or no number
abbrev pub turn_from : Rule → List ℕ → Contents → Result Word WordError → Turn
turn_from rule text H (Ok (WordCase.Number x c)) = entered (tide_of rule text H x c)
turn_from rule text H (Ok (WordCase.End l)) = ended H l
turn_from rule text H (Err e) = stopped (no_number e.line e.why)

-- the turn from a place on
unfoldable pub turn_of : Rule → List ℕ → Contents → Cursor → Turn
turn_of rule text H c = turn_from rule text H (next_of text c)

-- one more turn, where the last one goes on
abbrev pub further : Turn → (Contents → Cursor → Turn) → Turn
further (going H c) f = f H c
further (ended H l) f = ended H l
further (stopped t) f = stopped t

-- after at most n turns
unfoldable pub turns_of : Rule → List ℕ → ℕ → Turn → Turn
turns_of rule text zero t = t
turns_of rule text (suc n) t = further (turns_of rule text n t) (turn_of rule text)

-- ---- the whole text

-- 120 tides are the most, so that 121 turns come to an end
unfoldable pub text_of : Rule → List ℕ → Turn
text_of rule text = turns_of rule text 121 (entered (head_of text))

-- Write, lent `room` bytes; without room it is refused at the text's end. No text is still going after 121 turns
abbrev pub answered : Turn → ℕ → Report
answered (ended H l) room = cond (ltb room (length (file_of H))) (refused_at l (number 1)) (done (length (file_of H)))
answered (stopped t) room = t
answered (going H c) room = refused_at c.line (number 22)

-- what Write leaves of the lent bytes
abbrev pub written : Turn → List ℕ → List ℕ
written (ended H l) bytes = cond (ltb (length bytes) (length (file_of H))) bytes (file_of H ++ drop (length (file_of H)) bytes)
written (stopped t) bytes = bytes
written (going H c) bytes = bytes

-- a text above 131,072 bytes is too long; its last whole line is named
unfoldable pub pack_answer : List ℕ → ℕ → Report
pack_answer text room = cond (ltb 131072 (length text)) (too_long (newlines text)) (answered (text_of RuleCase.Entered text) room)

-- the lent bytes: those past the file stay
unfoldable pub pack_leaves : List ℕ → List ℕ → List ℕ
pack_leaves text bytes = cond (ltb 131072 (length text)) bytes (written (text_of RuleCase.Entered text) bytes)
