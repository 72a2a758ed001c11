-- Sizes, diameters and the greatest diameter are those of the tides below t. Assumes nothing.
use Rattle.blocking_core.specs.Measured.{Measured}
use Rattle.study.specs.Problem.{labels}
use Rattle.blocking_core.proofs.measure.measure.Given as goal

abbrev pub invariant-loop-t : goal.invariant-loop-t
invariant-loop-t l = Measured l.study.distances.now l.study.tides.n (labels l.list) l.t l.sizes l.diameters l.widest
