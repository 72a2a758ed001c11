-- Of the blocks below m, tide t has kept those that rank before v; everything else is as it was. Assumes nothing.
use Rattle.lists.specs.Lists.{at}
use Rattle.first_assignment.specs.Column.{Narrowed}
use Prim.Native.Nat.{◌<◌}
use Rattle.first_assignment.proofs.column.restrict.Given as goal

abbrev pub invariant-loop-m : goal.invariant-loop-m
invariant-loop-m l = Narrowed l.m l.t (λ x. at l.ranks.by_block x < at l.ranks.by_block l.v) l.initial.allowed l.allowed
