-- Of the blocks below m, tide t may go to v alone; everything else is as it was. Assumes nothing.
use Rattle.first_assignment.specs.Column.{Column}
use mathlib.Core.Path.{◌≡◌}
use Rattle.first_assignment.proofs.column.fix.Given as goal

abbrev pub invariant-loop-m : goal.invariant-loop-m
invariant-loop-m l = Column l.m l.t (λ x. x ≡ l.v) l.initial.allowed l.allowed
