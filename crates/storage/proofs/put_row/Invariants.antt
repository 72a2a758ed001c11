-- `put_row` meets its contract: the loop's invariant: the first i distances stand in the new row and column, and memory keeps its length;
-- the distances left fall. Assumes nothing.
use mathlib.Core.Path.{◌≡◌}
use lib.ListN.{length}
use Rattle.storage.specs.Places.{with_row}
use Rattle.storage.proofs.put_row.Given as goal

abbrev pub invariant-loop-i : goal.invariant-loop-i
invariant-loop-i l = (l.distances ≡ with_row l.row l.i l.initial.distances) × (length l.distances ≡ length l.initial.distances)
