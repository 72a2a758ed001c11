-- best is the next radius over the distances from tide i of the table to those after it and before m. Assumes nothing.
use Rattle.radius_search.specs.Next.{Next, InLater}
use Prim.Native.Nat.{◌<◌}
use Rattle.radius_search.proofs.next.next_later.Given as goal

abbrev pub invariant-loop-m : goal.invariant-loop-m
invariant-loop-m l = (l.i < l.m) × Next (InLater l.centres.study.distances.now l.centres.tides l.i l.m) l.g l.start l.best
