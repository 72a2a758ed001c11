-- `added_counts` meets its contract: the first i places hold the sums; the users left fall. Assumes nothing.
use Prim.Native.Nat.{◌-◌}
use Rattle.study.specs.Limits.{max_users}
use Rattle.merge.proofs.AnswerLaws.{Summed}
use Rattle.merge.proofs.counts.added_counts.Given as goal

abbrev pub invariant-loop-i : goal.invariant-loop-i
invariant-loop-i l = Summed l.v l.w l.sums l.i
