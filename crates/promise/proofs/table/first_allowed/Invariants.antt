-- The tide may go to no block below m. Assumes nothing.
use Rattle.promise.specs.Promise.{Nowhere}
use Rattle.promise.proofs.table.first_allowed.Given as goal

abbrev pub invariant-loop-m : goal.invariant-loop-m
invariant-loop-m l = Nowhere l.allowed l.t l.m
