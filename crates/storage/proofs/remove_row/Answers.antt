-- `remove_row` meets its contract: the loop's invariant: the places before p hold what moves there and the rest is as before, so that what
-- moves to p is still to be read; the places left fall. Assumes nothing.
use native.Mathlib.Omega.{arith}
use mathlib.Core.Path.{◌∙◌}
use Rattle.storage.proofs.PlaceLaws.{moved_distance_lem}
use Rattle.lists.proofs.Fills.{filled_none, filled_more}
use Rattle.storage.proofs.remove_row.Goals as goal

pub loop-p-init : goal.loop-p-init
loop-p-init c = filled_none

pub loop-p-preserved : goal.loop-p-preserved
loop-p-preserved c = let turn = c.loop-p in
    filled_more turn.invariant (omega arith) (omega arith) (c.moved_distance.ensures ∙ moved_distance_lem _ _ _ (omega arith) turn.invariant.is)
