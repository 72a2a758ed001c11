-- Sizes, diameters and the greatest diameter are those of the tides below t. Assumes nothing.
use native.Mathlib.Omega.{arith}
use Rattle.blocking_core.proofs.MeasuredLaws.{measured_none, measured_small, measured_more}
use Rattle.blocking_core.proofs.measure.measure.Goals as goal

pub loop-t-init : goal.loop-t-init
loop-t-init c = measured_none _ _ _

pub block_of-m-requires : goal.block_of-m-requires
block_of-m-requires c =
    let inside = c.loop-t-test.true in
    record { inside = (omega arith, c.requires.low _ inside, c.requires.high _ inside) }

pub overflow_add-sizes : goal.overflow_add-sizes
overflow_add-sizes c =
    let small = measured_small c.loop-t.invariant c.block_of-m.result c.block_of-m.ensures.below in
    omega arith

pub loop-t-preserved : goal.loop-t-preserved
loop-t-preserved c =
    let block = c.block_of-m.ensures in
    measured_more c.loop-t.invariant _ block.below block.number c.farthest-far.ensures c.max.ensures c.max-widest.ensures
