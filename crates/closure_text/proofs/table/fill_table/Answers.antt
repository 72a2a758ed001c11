-- `fill_table` meets its contract. The loop's invariant: the places passed so far hold the distances, the rest is as before.
-- Assumes nothing.
use native.Mathlib.Omega.{arith}
use mathlib.Core.Path.{refl}
use lib.ListN.{length-set}
use Rattle.lists.proofs.Tables.{overwrite_none, overwrite_step}
use Rattle.closure_text.proofs.table.fill_table.Goals as goal

pub loop-p-init : goal.loop-p-init
loop-p-init c = (overwrite_none _ _, refl)

pub loop-p-preserved : goal.loop-p-preserved
loop-p-preserved c =
    let inv = c.loop-p.invariant in
    (overwrite_step _ _ _ inv.0 c.stored_distance.ensures (omega arith), simp length-set inv.1)
