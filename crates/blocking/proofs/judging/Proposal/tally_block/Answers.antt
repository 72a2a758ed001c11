-- The tally is that of the tides below t under the number. Assumes nothing.
use native.Mathlib.Omega.{arith}
use mathlib.Core.Path.{refl}
use Rattle.study.specs.Problem.{block, labels}
use Rattle.radius_search.proofs.TallyLaws.{tallied_none, tally_room, tally_step}
use Rattle.blocking.proofs.judging.Proposal.tally_block.Goals as goal

pub loop-t-init : goal.loop-t-init
loop-t-init c = tallied_none _ _ refl

pub add-requires : goal.add-requires
add-requires c =
    let tides = c.args.self.now.study.tides in
    let few = tides.few in
    tally_room (tides.able.setting_high _ c.loop-t-test.true) c.loop-t.invariant (omega arith)

pub loop-t-preserved : goal.loop-t-preserved
unfolding block labels
loop-t-preserved c =
    let tides = c.args.self.now.study.tides in
    let more = c.add.ensures in
    tally_step (tides.able.setting_high _ c.loop-t-test.true) c.loop-t.invariant refl more.found more.by_setting
