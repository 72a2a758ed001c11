-- `prefilter` meets its contract: the loop's invariant: the new tide obeys the triangle inequality with each pair whose lower tide is
-- before i. Where a flag is raised, a pair violates the inequality or a distance is long. Assumes nothing.
use Rattle.triangle.specs.Prefilter.{Obeys}
use Rattle.triangle.proofs.prefilter.Given as goal

abbrev pub invariant-loop-i : goal.invariant-loop-i
invariant-loop-i l = Obeys l.distances l.row l.i
