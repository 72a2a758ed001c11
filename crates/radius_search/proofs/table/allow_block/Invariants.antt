-- Row m is right up to tide t, and the other rows stay. Assumes nothing.
use Rattle.radius_search.specs.Table.{RowTo}
use Rattle.radius_search.proofs.table.allow_block.Given as goal

abbrev pub invariant-loop-t : goal.invariant-loop-t
invariant-loop-t l = RowTo l.study.distances.now l.c l.g l.m l.t l.initial.allowed l.allowed
