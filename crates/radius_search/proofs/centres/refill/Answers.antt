-- The centres are those among the tides below t. Assumes nothing.
use native.Mathlib.Omega.{arith}
use mathlib.Core.Path.{◌∙◌}
use Rattle.radius_search.proofs.FrontLaws.{to_start, to_fits, to_hit, to_miss}
use Rattle.radius_search.proofs.centres.refill.Goals as goal
use Rattle.radius_search.proofs.centres.refill.Goals.{then-far_from, else-far_from}

pub loop-t-init : goal.loop-t-init
loop-t-init c = let start = c.clear.ensures in (start.same, rw start.none (to_start _ _ _ c.clear.new.self.long))

pub push-requires : goal.push-requires
push-requires c =
    let i = c.loop-t.invariant in
    let more = rw c.clear.ensures.same at c.loop-t-test.true in
    rw i.0 (omega (arith, to_fits i.1), more)

pub loop-t-preserved : goal.loop-t-preserved
loop-t-preserved c =
    let i = c.loop-t.invariant in
    let far = rw i.0 at c.far_from.ensures in
    let more = rw c.clear.ensures.same at c.loop-t-test.true in
    elim c.if-far_from.branch [
      | then-far_from w ↦
          let one = w.push.ensures in
          let fits = c.args.centres.now.study.rows.few in
          rw w.centres-is (one.same ∙ i.0, rw (one.more, one.tides) (to_hit i.1 far w.if-far_from.true (omega arith)))
      | else-far_from w ↦ rw w.centres-is (i.0, to_miss i.1 far w.if-far_from.false)
    ]
