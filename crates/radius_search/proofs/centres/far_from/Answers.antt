-- The tide is farther than g from the first m centres. Assumes nothing.
use native.Mathlib.Omega.{arith}
use Rattle.radius_search.proofs.FrontLaws.{far_more, far_fails}
use Rattle.radius_search.proofs.centres.far_from.Goals as goal

pub returns-then-distance-g : goal.returns-then-distance-g
returns-then-distance-g c =
    let inside = c.args.centres.now.inside in
    let l = c.loop-m-test.true in
    let long = c.args.centres.now.long in
    far_fails (inside.below _ l) c.requires l (omega (arith, inside.few)) (omega arith)

pub loop-m-preserved : goal.loop-m-preserved
loop-m-preserved c =
    let inside = c.args.centres.now.inside in
    let l = c.loop-m-test.true in
    let long = c.args.centres.now.long in
    far_more (inside.below _ l) c.requires (omega (arith, inside.few)) c.loop-m.invariant (omega arith)
