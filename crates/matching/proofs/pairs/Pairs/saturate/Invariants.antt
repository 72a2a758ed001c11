-- Each slot below s has a tide, in a matching. Assumes nothing.
use Rattle.matching.specs.Values.{Full}
use Rattle.matching.proofs.pairs.Pairs.saturate.Given as goal

abbrev pub invariant-loop-s : goal.invariant-loop-s
invariant-loop-s l = Full l.graph l.s l.self
