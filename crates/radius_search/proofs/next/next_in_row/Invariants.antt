-- best is the next radius over the distances from tide c to the tides below t. Assumes nothing.
use Rattle.radius_search.specs.Next.{Next, InRow}
use Rattle.radius_search.proofs.next.next_in_row.Given as goal

abbrev pub invariant-loop-t : goal.invariant-loop-t
invariant-loop-t l = Next (InRow l.study.distances.now l.c l.t) l.g l.start l.best
