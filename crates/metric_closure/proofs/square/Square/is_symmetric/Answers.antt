-- The rows passed so far are symmetric. Assumes nothing.
use native.Mathlib.Omega.{arith}
use mathlib.Core.Path.{sym}
use Rattle.lists.proofs.Scans.{every_none, every_more, every_fails, every_done, test_passes, test_fails}
use Rattle.std.proofs.lemmas.Bool.{not_from_false, not_from_true}
use Rattle.metric_closure.specs.Call.{symmetric_table}
use Rattle.metric_closure.proofs.square.Square.is_symmetric.Goals as goal

pub loop-i-init : goal.loop-i-init
loop-i-init c = every_none _

pub returns-then-not-is_row_symmetric : goal.returns-then-not-is_row_symmetric
unfolding symmetric_table
returns-then-not-is_row_symmetric c =
    sym (every_fails _ _ _ (omega arith) (test_fails c.is_row_symmetric.ensures (not_from_false _ c.if-not-is_row_symmetric.true)))

pub loop-i-preserved : goal.loop-i-preserved
loop-i-preserved c = every_more _ _ c.loop-i.invariant (test_passes c.is_row_symmetric.ensures (not_from_true _ c.if-not-is_row_symmetric.false))

pub returns : goal.returns
unfolding symmetric_table
returns c = sym (every_done _ _ _ (omega arith) (omega arith) c.loop-i.invariant)
