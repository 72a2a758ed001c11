-- `sum_minima` meets its contract: one more minimum is added. Assumes nothing.
use Rattle.std.proofs.Common.{arith, sym}
use Rattle.lists.proofs.Scans.{sum_more}
use Rattle.lists.proofs.Counts.{sum_zero}
use Rattle.validity.proofs.sum_minima.Goals as goal

pub loop-j-init : goal.loop-j-init
loop-j-init c = (sym (sum_zero _), omega arith)

pub loop-j-preserved : goal.loop-j-preserved
loop-j-preserved c = (sum_more _ _ c.loop-j.invariant.0 c.from-total.ensures, omega arith)
