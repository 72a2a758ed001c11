-- `close_table` meets its contract: the way may go by the tides passed so far. Assumes nothing.
use Rattle.metric_closure.proofs.TableLaws.{Closing}
use Rattle.metric_closure.proofs.lowering.close_table.Given as goal

abbrev pub invariant-loop-m : goal.invariant-loop-m
invariant-loop-m l = Closing l.n l.m l.initial.table l.table
