-- The first t places hold the blocks' numbers; the rest is as it was. Assumes nothing.
use native.Mathlib.Omega.{arith}
use Rattle.lists.proofs.Fills.{filled_none, filled_more}
use Rattle.study.specs.Problem.{labels}
use mathlib.Core.Path.{refl}
use Rattle.blocking_core.proofs.kernel.number.Goals as goal

pub loop-t-init : goal.loop-t-init
loop-t-init c = filled_none

-- a block's number is below 120, so one more fits a byte
pub overflow_add-list : goal.overflow_add-list
unfolding labels
overflow_add-list c =
    let turn = c.loop-t in
    let below = c.requires.by_index turn.t c.loop-t-test.true in
    omega arith

pub loop-t-preserved : goal.loop-t-preserved
unfolding labels
loop-t-preserved c = filled_more c.loop-t.invariant (omega arith) c.requires.n_in_bounds.1 refl
