-- What is proved of lists of calls for C; there are no proofs here. `for_c` of proofs/Proofs.antt proves the record. Assumes nothing.
use Rattle.std.specs.Prelude.{◌≤◌, ◌≡◌, Bool, true, false, ◌||◌, length}
use mathlib.Core.List.{List, flat_map}
use Rattle.std.proofs.Math.Option.{some}
use Rattle.lists.specs.Lists.{over}
use Rattle.study.specs.Study.{Study}
use Rattle.study.specs.Refusals.{number, accepted, refused}
use Rattle.study.specs.declared.Figures.{Figures}
use Rattle.access.specs.Calls.{Call, answer, output, after}
use Rattle.access.specs.Calls.{lent as lent_to}
use Rattle.blocking.specs.Calls.{figure_numbers, makes_blocks}
use Rattle.guarantee.specs.Runs.{Offered, call_of, run, study_after}
use Rattle.guarantee.specs.Theorems.{Guaranteed}
use Rattle.c_records.specs.Record.{Lent, record_size, state_in}
use Rattle.c_api.specs.Api.{lacks, c_verdict, c_left, c_output, Places, blocks_verdict, blocks_left}
use Rattle.c_guarantee.specs.Runs.{CCall, c_run, calls_of}

-- a run of the calls for C, from any record of 15 numbers or more and any memory, is a run of the calls
abbrev pub AsRun : Type 0
AsRun = (l : Lent) (cs : List CCall) → record_size ≤ length l.numbers → state_in (c_run l cs) ≡ run (state_in l) (flat_map calls_of cs)

-- after such a run any call for C whose lists of fixed size are long enough answers, leaves and writes what the call's value does after that run
abbrev pub AsCall : Type 0
AsCall =
    (l : Lent) (cs : List CCall) (c : Offered) → record_size ≤ length l.numbers
    → let s = run (state_in l) (flat_map calls_of cs) in
    (c_verdict (c_run l cs) false (call_of c) ≡ answer s (call_of c))
    × (state_in (c_left (c_run l cs) false (call_of c)) ≡ after s (call_of c))
    × (c_output (c_run l cs) false (call_of c) ≡ output s (call_of c))

-- with a record or a list of fixed size that is too short it is refused 1, and nothing changes
abbrev pub TooShort : Type 0
TooShort =
    (l : Lent) (few : Bool) (c : Call) → lacks record_size l.numbers || few ≡ true
    → (c_verdict l few c ≡ refused (number 1)) × (c_left l few c ≡ l) × (c_output l few c ≡ lent_to c)

-- demand 3 of the Block for C after such a run: where it is not refused, there is a study by the start and the calls, and the guarantee
-- holds of it, of the figures that stand in the result and of the list
abbrev pub CDemand3 : Type 0
CDemand3 =
    (l : Lent) (cs : List CCall) (p : Places) → record_size ≤ length l.numbers → blocks_verdict 3 (c_run l cs) makes_blocks p ≡ accepted
    → let after = blocks_left 3 (c_run l cs) makes_blocks p in
    (S : Study) × (F : Figures) × (study_after (state_in l) (flat_map calls_of cs) ≡ some S) × (after.result ≡ over (figure_numbers F) p.result)
    × Guaranteed S F after.list

-- the four, proved
pub record ForC : Type 0 where
  pub as_run : AsRun
  pub as_call : AsCall
  pub too_short : TooShort
  pub demand3 : CDemand3
