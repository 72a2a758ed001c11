-- `remove_row` meets its contract: the loop's invariant: the places before p hold what moves there and the rest is as before, so that what
-- moves to p is still to be read. Assumes nothing.
use Rattle.study.specs.Limits.{table_size}
use Rattle.storage.specs.Places.{moved_distance}
use Rattle.lists.proofs.Fills.{Filled}
use Rattle.storage.proofs.remove_row.Given as goal

abbrev pub invariant-loop-p : goal.invariant-loop-p
invariant-loop-p l = Filled table_size (moved_distance l.initial.distances l.m) l.initial.distances l.distances l.p
