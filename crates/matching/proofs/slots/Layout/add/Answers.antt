-- i slots of the block and kind stand from start on. Assumes nothing.
use native.Mathlib.Omega.{arith}
use Rattle.matching.proofs.Laying.{added_more}
use Rattle.matching.proofs.slots.Layout.add.Goals as goal

pub loop-i-preserved : goal.loop-i-preserved
loop-i-preserved c =
    let l = c.loop-i-test.true in
    let p = c.requires.size_bound in
    added_more c.loop-i.invariant (omega arith)
