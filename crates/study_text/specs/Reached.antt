-- What the code has reached, what a tide makes of what is held, and what holds while tides are read. Assumes nothing.
use Rattle.std.specs.Prelude.{ℕ, ◌≡◌, false, List, Option, Some, None, Result, Ok, Err}
use Rattle.study.specs.declared.Refusal.{Refusal}
use Rattle.study.specs.Study.{Contents, MeasuredStudy}
use Rattle.study.specs.Refusals.{verdict_of, settled, first_of}
use Rattle.study.specs.Calls.{entering}
use Rattle.validity.specs.Memory.{State, state_of, short, study_of, contents_of}
use Rattle.validity.specs.Validity.{Long}
use Rattle.access.specs.Passed.{Passed}
use Rattle.study_text.specs.declared.TextError.{TextError}
use Rattle.study_text.specs.declared.Rule.{Rule}
use Rattle.study_text.specs.declared.Rule.TheVariants as RuleCase
use Rattle.text_words.specs.declared.Cursor.{Cursor}
use Rattle.study_text.specs.declared.calls.Finished.{Finished}
use Rattle.text_words.specs.Words.{CursorWithin}
use Rattle.study_text.specs.Packing.{error_report, tide_reasons, Got, got, stop, head_of, Turn, going, ended, stopped, entered, turns_of}

-- record and memory hold a study but for the triangle inequality
pub record Measuring (s : State) : Type 0 where
  pub not_short : short s ≡ false
  pub study : MeasuredStudy (study_of s)
  pub long : Long s

-- what holds while tides are read: a dataset, or a measured study
abbrev pub Held : Rule → State → Type 0
Held RuleCase.Entered s = Passed s
Held RuleCase.Measured s = Measuring s

-- a tide of setting x and this row was given where s was: answer a, by the rule's reasons; t is left, with the tide where it is accepted
pub record Took (rule : Rule) (s : State) (x : ℕ) (row : List ℕ) (a : Result Unit Refusal) (t : State) : Type 0 where
  pub verdict : verdict_of a ≡ first_of (tide_reasons rule (contents_of s).study x row)
  pub contents : contents_of t ≡ settled (first_of (tide_reasons rule (contents_of s).study x row)) (entering x row (contents_of s)) (contents_of s)
  pub held : Held rule t

-- what is held, and a place in the text
pub record Alive (rule : Rule) (text : List ℕ) (s : State) (c : Cursor) : Type 0 where
  pub held : Held rule s
  pub within : CursorWithin text c

-- g is read: what it holds is held, at its place of the text; or what stops it stops the code
pub record Reaches (rule : Rule) (text : List ℕ) (r : Result Unit TextError) (s : State) (c : Cursor) (g : Got Contents) : Type 0 where
  pub goes : {done : Unit} → r ≡ Ok done → Alive rule text s c × (g ≡ got (contents_of s) c)
  pub stops : {e : TextError} → r ≡ Err e → g ≡ stop (error_report e)

-- turn t is taken: the text goes on, ends on a line, or is stopped
pub record TurnReached (rule : Rule) (text : List ℕ) (r : Result (Option ℕ) TextError) (s : State) (c : Cursor) (t : Turn) : Type 0 where
  pub goes : r ≡ Ok None → Alive rule text s c × (t ≡ going (contents_of s) c)
  pub ends : {l : ℕ} → r ≡ Ok (Some l) → Held rule s × (t ≡ ended (contents_of s) l)
  pub stops : {e : TextError} → r ≡ Err e → t ≡ stopped (error_report e)

-- after as many turns as tides are held, the text goes on from here
pub record Midway (rule : Rule) (text : List ℕ) (s : State) (c : Cursor) : Type 0 where
  pub alive : Alive rule text s c
  pub turns : turns_of rule text s.dataset.n (entered (head_of text)) ≡ going (contents_of s) c

-- the code has ended with turn t, on this line of the text
pub record Ended (rule : Rule) (r : Result ℕ TextError) (s : State) (t : Turn) : Type 0 where
  pub ends : {l : ℕ} → r ≡ Ok l → Held rule s × (t ≡ ended (contents_of s) l)
  pub stops : {e : TextError} → r ≡ Err e → t ≡ stopped (error_report e)

-- the same with the record, and the memory that holds the tides
pub record Finishes (rule : Rule) (r : Result Finished TextError) (distances settings : List ℕ) (t : Turn) : Type 0 where
  pub ends : {f : Finished} → r ≡ Ok f
      → Held rule (state_of f.dataset distances settings) × (t ≡ ended (contents_of (state_of f.dataset distances settings)) f.line)
  pub stops : {e : TextError} → r ≡ Err e → t ≡ stopped (error_report e)
