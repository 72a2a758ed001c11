-- best stays a place of the table's row. Assumes nothing.
use Prim.Native.Nat.{◌<◌}
use Rattle.study.specs.Limits.{max_tides}
use Rattle.first_assignment.proofs.rank.Ranks.least.Given as goal

abbrev pub invariant-loop-m : goal.invariant-loop-m
invariant-loop-m l = l.best < max_tides
