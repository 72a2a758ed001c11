-- The pairs are a matching. Assumes nothing.
use Rattle.matching.specs.Values.{Paired}
use Rattle.matching.proofs.pairs.Pairs.start.Given as goal

abbrev pub invariant-loop-t : goal.invariant-loop-t
invariant-loop-t l = Paired l.graph l.self
