-- List is an assignment that gives tide t the block v, and t has lost no block that ranks before v. What falls is the rank of v; at the
-- end no assignment gives t a block that ranks before it. Assumes nothing.
use Rattle.first_assignment.proofs.FirstLaws.{choosing_start, choosing_less, choosing_more, choosing_end}
use Rattle.lists.specs.Lists.{at}
use Rattle.study.specs.Problem.{labels}
use mathlib.Core.Path.{sym, subst}
use Prim.Native.Nat.{◌<◌}
use Rattle.first_assignment.proofs.first.choose.Goals as goal

pub loop-v-init : goal.loop-v-init
unfolding labels
loop-v-init c = choosing_start _ _ c.requires.assigned c.from-v.ensures

pub loop-v-smaller : goal.loop-v-smaller
unfolding labels
loop-v-smaller c =
    let turn = c.loop-v in
    let ranks = c.args.ranks.now.by_block in
    let pre = c.requires in
    let lower = c.lower.ensures in
    let less = choosing_less c.args.tides.few pre.t_lt_n turn.invariant lower.restricted lower.search_tried c.loop-v-test.true in
    subst (λ w. at ranks w < at ranks turn.v) (sym c.from-v-in-loop-v.ensures) less

pub loop-v-preserved : goal.loop-v-preserved
unfolding labels
loop-v-preserved c =
    let now = c.loop-v.invariant in
    let pre = c.requires in
    let lower = c.lower.ensures in
    choosing_more c.args.tides.few pre.t_lt_n now lower.restricted lower.search_tried c.loop-v-test.true _ c.from-v-in-loop-v.ensures

pub returns-clause-chosen : goal.returns-clause-chosen
returns-clause-chosen c =
    let now = c.loop-v.invariant in
    let pre = c.requires in
    let lower = c.lower.ensures in
    choosing_end c.args.tides.few pre.t_lt_n now lower.restricted lower.search_tried c.loop-v-test.false c.fix.ensures
