-- `nearer_places` meets its contract: the count over the places passed so far. Assumes nothing.
use native.Mathlib.Omega.{arith}
use mathlib.Core.Path.{sym}
use Rattle.lists.proofs.Counts.{count_zero}
use Rattle.metric_closure.proofs.TableLaws.{counted_more}
use Rattle.metric_closure.proofs.counting.nearer_places.Goals as goal

pub loop-j-init : goal.loop-j-init
loop-j-init c = (sym (count_zero _), omega arith)

pub loop-j-preserved : goal.loop-j-preserved
loop-j-preserved c = counted_more _ _ c.loop-j.invariant c.from-total.ensures
