-- What a call may rely on once the reasons that calls share are past, and what it answers from there. Assumes nothing.
use Rattle.std.specs.Prelude.{◌≡◌, true, false, List}
use Rattle.study.specs.Refusals.{Verdict, Reason, first_of}
use Rattle.validity.specs.Memory.{State, short, is_dataset}
use Rattle.validity.specs.Validity.{IsStudy, Long}
use Rattle.access.specs.Calls.{Holding, Caller, held, on_held}

-- what passes the tests of short memory and 21 is a dataset
pub record Passed (s : State) : Type 0 where
  pub not_short : short s ≡ false
  pub tested : is_dataset s ≡ true
  pub study : IsStudy s
  pub long : Long s

-- the answer of a call on a dataset by these own reasons: `answer` of a call that changes what is held, or asks
unfoldable pub held_answer : State → Caller → (Holding → List Reason) → Verdict
held_answer s by own = first_of (on_held (short s) by (held s) own)
