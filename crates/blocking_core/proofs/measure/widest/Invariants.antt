-- best is the greatest diameter of the tides below t. Assumes nothing.
use mathlib.Core.Path.{◌≡◌}
use Rattle.study.specs.Problem.{labels}
use Rattle.blocking_core.specs.Measured.{widest_of}
use Rattle.blocking_core.proofs.measure.widest.Given as goal

abbrev pub invariant-loop-t : goal.invariant-loop-t
invariant-loop-t l = l.best ≡ widest_of l.study.distances.now l.study.tides.n (labels l.list) l.t
