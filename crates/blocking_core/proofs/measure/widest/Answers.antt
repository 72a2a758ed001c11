-- best is the greatest diameter of the tides below t. Assumes nothing.
use Rattle.blocking_core.specs.Measured.{widest_of}
use Rattle.blocking_core.proofs.MeasuredLaws.{greatest_none, greatest_more}
use Rattle.blocking_core.proofs.measure.widest.Goals as goal

pub loop-t-init : goal.loop-t-init
unfolding widest_of
loop-t-init c = greatest_none _

pub loop-t-preserved : goal.loop-t-preserved
unfolding widest_of
loop-t-preserved c = greatest_more _ c.loop-t.invariant c.farthest.ensures c.max-best.ensures
