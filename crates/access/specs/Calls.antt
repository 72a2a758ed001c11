-- What every call shares. A call is one value of three kinds: it begins anew, it changes what is held, or it only asks. What it answers,
-- makes and tells is said here once, from short memory and what is held; the contracts of all calls and the theorems over lists of calls
-- cite it. The values stand with the calls: dataset, study_file, blocking and priced_blocks, each in specs/Calls. Assumes nothing.
use Rattle.std.specs.Prelude.{ℕ, Bool, true, false, cond, List, [], ◌∷◌}
use Rattle.std.proofs.Math.Option.{Option, none, some}
use Rattle.study.specs.declared.BlockRecord.{BlockRecord}
use Rattle.study.specs.Study.{Contents}
use Rattle.study.specs.Refusals.{Verdict, settled, Reply, replied, Reason, first_of, fresh_reasons, held_reasons}
use Rattle.validity.specs.Memory.{State, short, is_dataset, contents_of, stored}

-- ---- what is held

-- what a call finds: the contents
pub record Holding : Type 0 where
  pub contents : Contents

-- contents that a call brings in: nothing else is held beside them
abbrev pub fresh : Contents → Holding
fresh C = record { contents = C }

-- other contents; all else that is held stays
abbrev pub on_contents : (Contents → Contents) → Holding → Holding
on_contents f H = record { contents = f H.contents }

-- what a dataset holds
abbrev pub holding_of : State → Holding
holding_of s = record { contents = contents_of s }

-- what record and memory hold: where they are a dataset as described, what it holds; otherwise there is none
unfoldable pub held : State → Option Holding
held s = cond (short s) none (cond (is_dataset s) (some (holding_of s)) none)

-- record and memory that hold this; what else they keep stays
abbrev pub kept : Holding → State → State
kept H s = stored H.contents s

-- record and memory that hold what a call brings in
abbrev pub anew : Contents → State → State
anew C s = kept (fresh C) s

-- ---- the three kinds of calls

-- in whose name a call is made: the users that it names (document 02, 2.7: keepers)
pub record Caller : Type 0 where
  pub users : List ℕ

-- a call that names none
abbrev pub nobody : Caller
nobody = record { users = [] }

-- a call that names one
abbrev pub the_user : ℕ → Caller
the_user u = record { users = u ∷ [] }

-- a call that begins anew, whatever was held: its own reasons for a refusal, and the contents that an accepted call brings in
pub record Source : Type 0 where
  pub own : List Reason
  pub brings : Contents

-- a call that changes what is held: its own reasons, and what an accepted call makes of it
pub record Update : Type 0 where
  pub caller : Caller
  pub own : Holding → List Reason
  pub makes : Holding → Holding

-- the numbers that a call answers, and the lists and records that it is lent, as they stand
pub record Output : Type 0 where
  pub numbers : List ℕ
  pub lists : List (List ℕ)
  pub records : List BlockRecord

-- the list of a call that is lent one
abbrev pub first_list : List (List ℕ) → List ℕ
first_list [] = []
first_list (l ∷ ls) = l

-- of a call that answers no numbers and is lent no list
abbrev pub no_output : Output
no_output = record { numbers = []; lists = []; records = [] }

-- a call that only reads: its own reasons, what it is lent, and what an accepted call answers and leaves there
pub record Inquiry : Type 0 where
  pub caller : Caller
  pub own : Holding → List Reason
  pub lent : Output
  pub tells : Holding → Output

-- any call, with the values of its arguments and what it is lent
pub data Call : Type 0 where
  begins : Source → Call
  changes : Update → Call
  asks : Inquiry → Call

-- ---- what a call answers, makes and tells, from short memory and what is held. Memory that is too short for a dataset stays so

-- the reasons of a call on a dataset, in the documents' order: the ladder that calls share, and then its own; 21 while there is none
abbrev pub on_held : Bool → Caller → Option Holding → (Holding → List Reason) → List Reason
on_held is_too_short by none own = held_reasons is_too_short by.users false []
on_held is_too_short by (some H) own = held_reasons is_too_short by.users true (own H)

-- of any call
unfoldable pub reasons : Bool → Option Holding → Call → List Reason
reasons is_too_short h (begins S) = fresh_reasons is_too_short S.own
reasons is_too_short h (changes U) = on_held is_too_short U.caller h U.own
reasons is_too_short h (asks Q) = on_held is_too_short Q.caller h Q.own

-- whether it is refused, and why
unfoldable pub verdict : Bool → Option Holding → Call → Verdict
verdict is_too_short h c = first_of (reasons is_too_short h c)

-- what is there, changed; nothing, where there is nothing
abbrev pub changing : {A : Type 0} → Option A → (A → A) → Option A
changing none f = none
changing (some x) f = some (f x)

-- what an accepted call makes of what is held
unfoldable pub changed : Option Holding → Call → Option Holding
changed h (begins S) = some (fresh S.brings)
changed h (changes U) = changing h U.makes
changed h (asks Q) = h

-- a refused call leaves it
unfoldable pub step : Bool → Option Holding → Call → Option Holding
step is_too_short h c = settled (verdict is_too_short h c) (changed h c) h

-- what a call is lent besides record and memory
unfoldable pub lent : Call → Output
lent (begins S) = no_output
lent (changes U) = no_output
lent (asks Q) = Q.lent

-- an accepted inquiry tells of what is held
abbrev pub tells_of : Option Holding → Inquiry → Output
tells_of none Q = Q.lent
tells_of (some H) Q = Q.tells H

-- the numbers that an accepted call answers, and what it leaves in what it was lent
unfoldable pub told : Option Holding → Call → Output
told h (begins S) = no_output
told h (changes U) = no_output
told h (asks Q) = tells_of h Q

-- all that its caller learns
pub record Response : Type 0 where
  pub verdict : Verdict
  pub output : Output

-- a refused call answers no numbers, and leaves what it was lent
unfoldable pub learnt : Bool → Option Holding → Call → Response
learnt is_too_short h c = let v = verdict is_too_short h c in record { verdict = v; output = settled v (told h c) (lent c) }

-- ---- the same on record and memory

-- all that the caller of a call learns
unfoldable pub response : State → Call → Response
response s c = learnt (short s) (held s) c

-- whether it is refused, and why
unfoldable pub answer : State → Call → Verdict
answer s c = (response s c).verdict

-- the numbers that it answers, and what it was lent, as it then stands
unfoldable pub output : State → Call → Output
output s c = (response s c).output

-- the numbers, or the refusal
unfoldable pub reply : State → Call → Reply (List ℕ)
reply s c = replied (answer s c) (output s c).numbers

-- the lists that it was lent, as they then stand
abbrev pub lists_after : State → Call → List (List ℕ)
lists_after s c = (output s c).lists

-- of a call that is lent one list: that list
abbrev pub list_after : State → Call → List ℕ
list_after s c = first_list (lists_after s c)

-- the records that it was lent, as they then stand
abbrev pub records_after : State → Call → List BlockRecord
records_after s c = (output s c).records

-- record and memory after an accepted call
unfoldable pub made : State → Call → State
made s (begins S) = anew S.brings s
made s (changes U) = kept (U.makes (holding_of s)) s
made s (asks Q) = s

-- a refused call leaves them as they were
unfoldable pub after : State → Call → State
after s c = settled (answer s c) (made s c) s
