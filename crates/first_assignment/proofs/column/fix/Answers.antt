-- Of the blocks below m, tide t may go to v alone; everything else is as it was. Assumes nothing.
use native.Mathlib.Omega.{arith}
use Rattle.first_assignment.proofs.ColumnLaws.{fix_more}
use Rattle.first_assignment.proofs.column.fix.Goals as goal

pub loop-m-preserved : goal.loop-m-preserved
loop-m-preserved c = fix_more c.from.result (omega arith) (omega arith) (omega arith) c.loop-m.invariant c.from.ensures
