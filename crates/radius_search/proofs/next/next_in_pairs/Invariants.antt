-- best is the next radius over the pairs whose first tide stands before i in the table. Assumes nothing.
use Rattle.radius_search.specs.Next.{Next, InPairs}
use Rattle.radius_theory.specs.Radii.{no_radius}
use Rattle.radius_search.proofs.next.next_in_pairs.Given as goal

abbrev pub invariant-loop-i : goal.invariant-loop-i
invariant-loop-i l = Next (InPairs l.centres.study.distances.now l.centres.tides l.centres.count l.i) l.g no_radius l.best
