-- Every tide below t that the slot can hold is seen, and none of those seen here is free. Assumes nothing.
use Rattle.matching.specs.Values.{Scanned}
use Rattle.matching.proofs.paths.Paths.scan.Given as goal

abbrev pub invariant-loop-t : goal.invariant-loop-t
invariant-loop-t l = Scanned l.graph l.pairs l.s l.t l.initial.self l.self
