-- The pairs are a matching, the tide t is free and the slot s can hold it, and s lies on a path back to the root; the rank of s falls.
-- Assumes nothing.
use Rattle.lists.specs.Lists.{at}
use Rattle.matching.specs.Graph.{Shifting}
use Rattle.matching.specs.Values.{slots, Holds}
use Rattle.matching.proofs.pairs.Pairs.shift.Given as goal

abbrev pub invariant-loop-o : goal.invariant-loop-o
invariant-loop-o l =
    Shifting (Holds l.graph) (slots l.graph) l.graph.tides.n (at l.paths.queue 0) l.s l.t l.initial.self.tide l.self.tide l.self.slot l.paths.from
    l.paths.rank

abbrev pub decreases-loop-o : goal.decreases-loop-o
decreases-loop-o l = at l.paths.rank l.s
