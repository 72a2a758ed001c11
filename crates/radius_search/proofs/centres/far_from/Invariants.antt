-- The tide is farther than g from the first m centres. Assumes nothing.
use Rattle.radius_search.specs.Front.{FarFrom}
use mathlib.Core.Bool.{true}
use Rattle.radius_search.proofs.centres.far_from.Given as goal

abbrev pub invariant-loop-m : goal.invariant-loop-m
invariant-loop-m l = FarFrom l.centres.study.distances.now l.centres.study.tides.n l.g l.t l.m l.centres.tides true
