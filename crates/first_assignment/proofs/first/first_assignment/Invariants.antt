-- The tides below t are fixed: the table has the assignments of the first table that agree with list below t, none of which comes before
-- it. Assumes nothing.
use Rattle.first_assignment.specs.First.{rank}
use Rattle.first_assignment.proofs.FirstLaws.{Fixed}
use Rattle.promise.specs.Met.{met}
use mathlib.Core.Path.{◌≡◌}
use Rattle.lists.specs.Lists.{TailKept}
use Rattle.first_assignment.proofs.first.first_assignment.Given as goal

abbrev pub invariant-loop-t : goal.invariant-loop-t
invariant-loop-t l =
    let study = l.centres.study in
    (l.ranks.blocks ≡ l.centres.count) × TailKept study.tides.n l.initial.list l.list
    × Fixed (rank study.distances.now l.centres.tides) study.tides.n l.centres.count (met study.tides) l.t l.initial.allowed l.allowed l.list
