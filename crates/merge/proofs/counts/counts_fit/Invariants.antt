-- `counts_fit` meets its contract: the sums passed so far fit; the users left fall. Assumes nothing.
use Prim.Native.Nat.{◌≤◌, ◌-◌}
use mathlib.Core.Path.{◌≡◌}
use mathlib.Core.Bool.{true}
use Rattle.lists.specs.Lists.{every}
use Rattle.study.specs.Limits.{max_users}
use Rattle.merge.proofs.AnswerLaws.{fits}
use Rattle.merge.proofs.counts.counts_fit.Given as goal

abbrev pub invariant-loop-i : goal.invariant-loop-i
invariant-loop-i l = every l.i (fits l.v l.w) ≡ true
