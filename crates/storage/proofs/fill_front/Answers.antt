-- `fill_front` meets its contract: one more place holds x. Assumes nothing.
use Rattle.std.proofs.Common.{arith, refl}
use Rattle.lists.proofs.Tables.{overwrite_none, overwrite_step}
use Rattle.storage.proofs.fill_front.Goals as goal

pub loop-i-init : goal.loop-i-init
loop-i-init g c = overwrite_none _ _

pub loop-i-preserved : goal.loop-i-preserved
loop-i-preserved g c = overwrite_step _ _ _ c.loop-i.invariant refl (omega arith)
