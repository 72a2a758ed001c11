-- `lower_row` meets its contract: the places passed so far hold the lesser of the two ways, the rest is as before. Assumes nothing.
use native.Mathlib.Omega.{arith}
use mathlib.Core.Path.{refl}
use lib.ListN.{length-set}
use Rattle.lists.proofs.Tables.{overwrite_none}
use Rattle.metric_closure.proofs.TableLaws.{lower_more}
use Rattle.metric_closure.proofs.row.lower_row.Goals as goal

pub loop-j-init : goal.loop-j-init
loop-j-init c = (overwrite_none _ _, refl)

pub loop-j-preserved : goal.loop-j-preserved
loop-j-preserved c =
    let inv = c.loop-j.invariant in (lower_more _ _ _ inv.0 c.min.ensures (omega arith), simp length-set inv.1)
