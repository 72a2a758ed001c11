-- The first i places hold the rows' records, and the later ones are as they were. Assumes nothing.
use native.Mathlib.Omega.{arith}
use Rattle.lists.proofs.Tables.{overwrite_none, overwrite_step}
use Rattle.blocking.proofs.storing.put_records.Goals as goal

pub loop-i-init : goal.loop-i-init
loop-i-init c = overwrite_none _ _

pub loop-i-preserved : goal.loop-i-preserved
loop-i-preserved c = overwrite_step _ _ _ c.loop-i.invariant c.row_at.ensures (omega arith)
