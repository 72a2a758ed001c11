-- `row_flags` meets its contract: the loop's invariant: the total is the flags that the first j tides of the row raise. Assumes nothing.
use Rattle.triangle.specs.Prefilter.{RowFlags}
use Rattle.triangle.proofs.row_flags.Given as goal

abbrev pub invariant-loop-j : goal.invariant-loop-j
invariant-loop-j l = RowFlags l.line l.y l.row l.j l.total
