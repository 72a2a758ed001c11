-- The slots of rank below head are scanned: every tide that they can hold is seen, and none of those is free; slots - head falls, since the
-- queue never holds more than the slots. Assumes nothing.
use Prim.Native.Nat.{◌-◌}
use Rattle.lists.specs.Lists.{at}
use Rattle.matching.proofs.Turns.{Growing}
use Rattle.matching.specs.Values.{slots, Holds, Noted}
use Rattle.matching.proofs.paths.Paths.grow.Given as goal

abbrev pub invariant-loop-head : goal.invariant-loop-head
invariant-loop-head l =
    Growing (Holds l.graph) (slots l.graph) l.graph.tides.n (at l.initial.self.queue 0) l.head l.self.tail l.pairs.tide l.pairs.slot l.self.from l.self.rank
    l.self.queue
    × Noted l.graph l.mark l.self

abbrev pub decreases-loop-head : goal.decreases-loop-head
decreases-loop-head l = slots l.graph - l.head
