-- The run of a list of calls over any record and memory of any length and content, and document 01's "The study and its rivals": what the
-- start and the calls bring in, for which the memory is looked at where the calls start, and never again; two other datasets may come in by a
-- merge. A call is a value (access), the very one that its contract cites; what it answers, makes and tells is said there. Assumes nothing.
use Rattle.std.specs.Prelude.{ℕ, Bool, List, [], ◌∷◌}
use Rattle.std.proofs.Math.Option.{Option, none, some}
use Rattle.study.specs.declared.Minima.{Minima}
use Rattle.study.specs.Study.{Study, Contents}
use Rattle.validity.specs.Memory.{State, short}
use Rattle.access.specs.Calls.{Inquiry, Call, begins, changes, asks, Holding, held, step, after}
use Rattle.dataset.specs.Calls.{opens_dataset, sets_minima, enters_tide, withdraws_tide}
use Rattle.study_file.specs.Calls.{reads_file}
use Rattle.merge.specs.Calls.{merges_datasets}

-- ---- the calls of a run

-- every call that begins a dataset or changes one, with the values of its arguments; and any question, since none changes anything
pub data Offered : Type 0 where
  open_with : ℕ → Offered
  read_file : List ℕ → Offered
  -- two datasets, any records and memory, and the numbers of the shared tides in the one and in the other: merged into the run's own memory
  -- (document 02, 2.9: joining)
  merge : State → State → List ℕ → List ℕ → Offered
  set_minima : Minima → Offered
  -- a setting and a row
  enter : ℕ → List ℕ → Offered
  -- a user, and a tide's number
  withdraw : ℕ → ℕ → Offered
  -- Centres, Block, the tariff, Judge and Write are such
  ask : Inquiry → Offered

-- each as the value that its contract cites
unfoldable pub call_of : Offered → Call
call_of (open_with k) = opens_dataset k
call_of (read_file file) = reads_file file
call_of (merge a b firsts seconds) = merges_datasets a b firsts seconds
call_of (set_minima M) = sets_minima M
call_of (enter setting row) = enters_tide setting row
call_of (withdraw u t) = withdraws_tide u t
call_of (ask Q) = asks Q

-- what an accepted call brings in that begins anew; nothing of another call
abbrev pub brings_in : Call → Option Contents
brings_in (begins S) = some S.brings
brings_in (changes U) = none
brings_in (asks Q) = none

-- each call gets record and memory as the last one left them
unfoldable pub run : State → List Offered → State
run s [] = s
run s (c ∷ cs) = run (after s (call_of c)) cs

-- ---- what the calls bring in

-- along the calls; any refused call leaves what is held
unfoldable pub following : Bool → Option Holding → List Offered → Option Holding
following is_too_short h [] = h
following is_too_short h (c ∷ cs) = following is_too_short (step is_too_short h (call_of c)) cs

-- what the start and the calls bring in
unfoldable pub held_after : State → List Offered → Option Holding
held_after start calls = following (short start) (held start) calls

-- its study
abbrev pub study_in : Option Holding → Option Study
study_in none = none
study_in (some H) = some H.contents.study

-- the study of demand 3
unfoldable pub study_after : State → List Offered → Option Study
study_after start calls = study_in (held_after start calls)
