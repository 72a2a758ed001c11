-- The rows of the first m blocks are right. Assumes nothing.
use Rattle.radius_search.specs.Table.{Table}
use Rattle.radius_search.proofs.table.allow.Given as goal

abbrev pub invariant-loop-m : goal.invariant-loop-m
invariant-loop-m l = Table l.centres.study.distances.now l.centres.tides l.g l.m l.centres.study.tides.n l.initial.allowed l.allowed
