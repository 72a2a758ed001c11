-- `put_row` meets its contract: the loop's invariant: the first i distances stand in the new row and column, and memory keeps its length;
-- the distances left fall. Assumes nothing.
use mathlib.Core.Path.{refl}
use lib.ListN.{length-set}
use Rattle.storage.proofs.PlaceLaws.{row_none, row_more}
use Rattle.storage.proofs.put_row.Goals as goal

pub loop-i-init : goal.loop-i-init
loop-i-init c = (row_none _ _, refl)

pub loop-i-preserved : goal.loop-i-preserved
loop-i-preserved c = (row_more _ _ _ c.loop-i.invariant.0, simp length-set c.loop-i.invariant.1)
