-- best is the greatest distance of t from a tide below u of its block. Assumes nothing.
use Rattle.blocking_core.specs.Measured.{farthest_of}
use Rattle.study.specs.Problem.{labels}
use mathlib.Core.Path.{◌≡◌}
use Rattle.blocking_core.proofs.measure.farthest.Given as goal

abbrev pub invariant-loop-u : goal.invariant-loop-u
invariant-loop-u l = l.best ≡ farthest_of l.study.distances.now l.study.tides.n (labels l.list) l.t l.u
