-- best is the next radius over the rows of the tides below c. Assumes nothing.
use Rattle.radius_search.specs.Next.{Next, InRows}
use Rattle.radius_theory.specs.Radii.{no_radius}
use Rattle.radius_search.proofs.next.next_of_all.Given as goal

abbrev pub invariant-loop-c : goal.invariant-loop-c
invariant-loop-c l = Next (InRows l.study.distances.now l.study.tides.n (λ i. i) l.c) l.g no_radius l.best
