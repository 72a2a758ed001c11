-- The front of the list that `centres_into` leaves, the other two lists, and the number of its answer. Assumes nothing.
use Rattle.blocking.specs.Calls.{centre_lists}
use Rattle.validity.specs.View.{seen}
use Rattle.blocking.proofs.CentresLaws.{Filled, filled_some, filled_none, centres_part}
use Rattle.blocking.proofs.centres.centres.Goals.{in-Ok, in-Err}
use Rattle.blocking.proofs.centres.centres.Goals as goal

-- the count and the number are the answer's
filled : (c : goal.After-list-2-1)
    → Filled (seen c.args.view) (centre_lists c.args.list.now c.args.nearest.now c.args.away.now) c.args.g c.match-centres_into.count
filled c =
    let told = c.centres_into.ensures.answer in
    elim c.match-centres_into.branch [
      | in-Ok w ↦ filled_some _ _ _ told w.in-Ok.is w.count-is
      | in-Err w ↦ filled_none _ _ _ told w.in-Err.is w.number.ensures w.count-is
    ]

pub slice_bounds-result-end : goal.slice_bounds-result-end
slice_bounds-result-end c = (centres_part _ _ _ (filled c).0 c.centres_into.ensures.lists).0

pub returns-clause-part : goal.returns-clause-part
returns-clause-part c = (centres_part _ _ _ (filled c).0 c.centres_into.ensures.lists).1

pub returns-clause-refusal : goal.returns-clause-refusal
returns-clause-refusal c = (filled c).1
