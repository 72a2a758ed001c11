-- The centres are those among the tides below t. Assumes nothing.
use mathlib.Core.Path.{◌≡◌}
use Rattle.radius_search.proofs.FrontLaws.{CentresTo}
use Rattle.radius_search.proofs.centres.refill.Given as goal

abbrev pub invariant-loop-t : goal.invariant-loop-t
invariant-loop-t l =
    (l.centres.study ≡ l.fn.centres.study)
    × CentresTo l.fn.centres.study.distances.now l.fn.centres.study.tides.n l.g l.t l.centres.count l.centres.tides
