-- best is the next radius over the distances from tide i of the table to those after it and before m. Assumes nothing.
use native.Mathlib.Omega.{arith}
use mathlib.Core.Path.{◌≡◌, subst}
use Rattle.radius_search.specs.Next.{Next, InLater}
use Rattle.radius_search.proofs.NextLaws.{later_step}
use Rattle.radius_search.proofs.next.next_later.Goals as goal

pub loop-m-preserved : goal.loop-m-preserved
loop-m-preserved c =
    let args = c.args in
    let turn = c.loop-m in
    let i = turn.invariant in
    let closest = rw (c.distance.ensures, c.from.ensures) at c.closer-best.ensures in
    (omega arith, later_step args.centres.now.study.distances.now args.centres.now.tides args.i turn.m i.0 i.1 closest)

pub returns : goal.returns
returns c =
    let args = c.args in
    let done : c.loop-m.m ≡ args.centres.now.count = omega arith in
    subst (λ z. Next (InLater args.centres.now.study.distances.now args.centres.now.tides args.i z) args.g args.start c.loop-m.best) done c.loop-m.invariant.1
