-- `read_tides` meets its contract. The loop's invariant: after as many turns as tides are held, the text stands at this place; 121 less the
-- tides held falls. Assumes nothing.
use mathlib.Core.Path.{◌≡◌}
use lib.ListN.{length}
use Prim.Native.Nat.{◌-◌}
use Rattle.validity.specs.Memory.{state_of}
use Rattle.study_text.specs.Reached.{Midway}
use Rattle.study_text.proofs.calls.read_tides.Given as goal

abbrev pub invariant-loop-end : goal.invariant-loop-end
invariant-loop-end l =
    Midway l.rule l.text (state_of l.dataset l.distances l.settings) l.cursor
    × (length l.distances ≡ length l.initial.distances) × (length l.settings ≡ length l.initial.settings)

abbrev pub decreases-loop-end : goal.decreases-loop-end
decreases-loop-end l = 121 - l.dataset.n
