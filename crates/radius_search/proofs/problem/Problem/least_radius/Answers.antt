-- Radii upwards: no candidate below g has an assignment, and g is a candidate. A turn goes from g to limit, where the centres change, unless
-- a radius between has an assignment; no_radius - g falls. Assumes nothing.
use Rattle.lists.proofs.Tables.{tail_same, tail_trans}
use Rattle.promise.proofs.MeetingLaws.{meeting_least}
use Rattle.radius_search.proofs.AscentLaws.{steady, pairs_ahead, many_lowest, lowest_small, first_lowest, least_found}
use Rattle.radius_search.proofs.NextLaws.{next_up}
use mathlib.Core.Path.{refl, ◌∙◌}
use Rattle.radius_search.proofs.problem.Problem.least_radius.Goals as goal

pub loop-centres-init : goal.loop-centres-init
loop-centres-init c =
    let problem = c.args.self.now in
    let l = first_lowest problem.valid problem.tides c.lower_bound-low.ensures c.first_from-g.ensures in
    (c.none-centres.ensures.same, l, lowest_small problem.valid problem.tides l, refl, tail_same _ _)

pub invariant_of-stretch-clause-order : goal.invariant_of-stretch-clause-order
invariant_of-stretch-clause-order c = next_up c.loop-centres.invariant.2 c.next_in_pairs-limit.ensures

pub invariant_of-stretch-clause-tides : goal.invariant_of-stretch-clause-tides
invariant_of-stretch-clause-tides c = rw (c.refill.ensures.same, c.loop-centres.invariant.0) c.args.self.now.tides

pub invariant_of-stretch-clause-valid : goal.invariant_of-stretch-clause-valid
invariant_of-stretch-clause-valid c = rw (c.refill.ensures.same, c.loop-centres.invariant.0) c.args.self.now.valid

pub invariant_of-stretch-clause-steady : goal.invariant_of-stretch-clause-steady
invariant_of-stretch-clause-steady c =
    let i = c.loop-centres.invariant in
    let same = c.refill.ensures.same ∙ i.0 in
    let found = rw i.0 at c.refill.ensures.centres_at in
    let next = rw same at c.next_in_pairs-limit.ensures in
    rw same (steady c.args.self.now.valid found next)

pub ascend-requires-clause-ahead : goal.ascend-requires-clause-ahead
ascend-requires-clause-ahead c =
    let i = c.loop-centres.invariant in
    let same = c.refill.ensures.same ∙ i.0 in
    let found = rw i.0 at c.refill.ensures.centres_at in
    let next = rw same at c.next_in_pairs-limit.ensures in
    rw same (pairs_ahead c.args.self.now.valid found next)

pub returns-in-Some-clause-least : goal.returns-in-Some-clause-least
returns-in-Some-clause-least c =
    let i = c.loop-centres.invariant in
    let same = c.refill.ensures.same ∙ i.0 in
    let found = rw i.0 at c.refill.ensures.centres_at in
    let next = rw same at c.next_in_pairs-limit.ensures in
    let rise = rw (same, c.in-Some.is) at c.ascend.ensures.ascent in
    least_found (steady c.args.self.now.valid found next) i.3 rise (rw c.in-Some.is at c.ascend.ensures.below)

pub loop-centres-preserved-in_default : goal.loop-centres-preserved-in_default
loop-centres-preserved-in_default c =
    let problem = c.args.self.now in
    let i = c.loop-centres.invariant in
    let same = c.refill.ensures.same ∙ i.0 in
    let rise = rw (same, c.in_default.is) at c.ascend.ensures.ascent in
    let l = rise.lowest in
    (same, l, lowest_small problem.valid problem.tides l, rise.same_length ∙ i.3, tail_trans i.4 (rw same at c.ascend.ensures.tail_kept))

pub loop-centres-preserved : goal.loop-centres-preserved
loop-centres-preserved c =
    let problem = c.args.self.now in
    let i = c.loop-centres.invariant in
    let same = c.refill.ensures.same ∙ i.0 in
    let found = rw i.0 at c.refill.ensures.centres_at in
    let next = rw same at c.next_in_pairs-limit.ensures in
    let many = rw c.from-b0.ensures at c.if-centres-b0.false in
    let l = many_lowest problem.valid problem.tides (meeting_least _ _ _) i.1 found next many in
    (same, l, lowest_small problem.valid problem.tides l, i.3, i.4)
