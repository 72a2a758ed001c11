-- All numbers pass the test, or there is one that does not. Assumes nothing.
use borrow.Author.Rules.{rules}
use borrow.Author.Tests.{tests}
use Prim.Native.Nat.{◌≤◌, ◌<◌}
use Rattle.std.proofs.lemmas.Iterator.{cases_from_all, YieldsList-from_slice}
use Rattle.metric_closure.specs.Call.{in_range}
use Rattle.metric_closure.proofs.CallLaws.{all_at_most}
use Rattle.metric_closure.proofs.reasons.in_range.Goals as goal

pub returns : goal.returns
unfolding in_range
returns c =
    all_at_most c.args.table.now 1048575 _
    (cases_from_all _ _ _ (λ x. x ≤ 1048575) (λ x. 1048575 < x) c.all.ensures.ran (YieldsList-from_slice c.args.table.now cc)
    (λ x q k. search (rules, tests)) (λ x q k. search (rules, tests)))
