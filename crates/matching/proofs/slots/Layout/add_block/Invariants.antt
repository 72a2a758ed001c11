-- The slots of the first j settings of the block stand behind those that were there. Assumes nothing.
use Rattle.matching.proofs.Laying.{PartAdded}
use Rattle.matching.proofs.slots.Layout.add_block.Given as goal

abbrev pub invariant-loop-j : goal.invariant-loop-j
invariant-loop-j l =
    PartAdded l.initial.self.slots l.m l.j l.self.slots l.minima.b l.initial.self.owner l.initial.self.kind l.self.owner l.self.kind
