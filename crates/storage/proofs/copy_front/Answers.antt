-- `copy_front` meets its contract: one more place is copied. Assumes nothing.
use Rattle.std.proofs.Common.{arith}
use Rattle.storage.proofs.PlaceLaws.{front_more}
use Rattle.storage.proofs.copy_front.Goals as goal

pub loop-place-preserved : goal.loop-place-preserved
loop-place-preserved g c = front_more _ _ c.loop-place.invariant c.index-from-place.is (omega arith) (omega arith)
