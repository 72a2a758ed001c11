-- `lower_by` meets its contract: the line holds row m, the rows passed so far are lowered by it, the rest is as before. Assumes nothing.
use Rattle.metric_closure.specs.Tables.{Lowered}
use Rattle.metric_closure.proofs.TableLaws.{LineOf}
use Rattle.metric_closure.proofs.lowering.lower_by.Given as goal

abbrev pub invariant-loop-i : goal.invariant-loop-i
invariant-loop-i l = LineOf l.n l.m l.initial.table l.line × Lowered l.n l.m l.i l.initial.table l.table
