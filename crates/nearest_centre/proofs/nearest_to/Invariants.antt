-- `best` is the first place of the least of the first m centres' distances, and `least` is that distance. Assumes nothing.
use Rattle.lists.specs.Lists.{at}
use Rattle.study.specs.Limits.{cell}
use Rattle.nearest_centre.proofs.LeastLaws.{FirstLeast}
use Rattle.nearest_centre.proofs.nearest_to.Given as goal

abbrev pub invariant-loop-m : goal.invariant-loop-m
invariant-loop-m l = FirstLeast (λ k. cell l.centres.study.distances.now (at l.centres.tides k) l.t) l.m l.best l.least
