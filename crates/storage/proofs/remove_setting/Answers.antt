-- `remove_setting` meets its contract: the loop's invariant: the places before i hold what moves there and the rest is as before, so that what
-- moves to i is still to be read; the places left fall. Assumes nothing.
use native.Mathlib.Omega.{arith}
use mathlib.Core.Path.{◌∙◌}
use Rattle.storage.proofs.PlaceLaws.{moved_setting_lem}
use Rattle.lists.proofs.Fills.{filled_none, filled_more}
use Rattle.storage.proofs.remove_setting.Goals as goal

pub loop-i-init : goal.loop-i-init
loop-i-init c = filled_none

pub loop-i-preserved : goal.loop-i-preserved
loop-i-preserved c = let turn = c.loop-i in
    filled_more turn.invariant (omega arith) (omega arith) (c.moved_setting.ensures ∙ moved_setting_lem _ _ _ (omega arith) turn.invariant.is)
