-- The tally is that of the tides below t that lie in the ball. Assumes nothing.
use native.Mathlib.Omega.{arith}
use mathlib.Core.Path.{refl, ap}
use lib.Dec.{leb}
use Rattle.radius_search.proofs.TallyLaws.{tallied_none, tally_room, tally_step}
use Rattle.radius_search.proofs.bound.tally_ball.Goals as goal

pub loop-t-init : goal.loop-t-init
loop-t-init c = tallied_none _ _ refl

pub add-requires : goal.add-requires
add-requires c =
    let tides = c.args.study.now.tides in
    let few = tides.few in
    tally_room (tides.able.setting_high _ c.loop-t-test.true) c.loop-t.invariant (omega arith)

pub loop-t-preserved : goal.loop-t-preserved
loop-t-preserved c =
    let tides = c.args.study.now.tides in
    let more = c.add.ensures in
    tally_step (tides.able.setting_high _ c.loop-t-test.true) c.loop-t.invariant (ap (λ z. leb z c.args.g) c.distance.ensures)
    more.found more.by_setting
