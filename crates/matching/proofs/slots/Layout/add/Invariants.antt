-- i slots of the block and kind stand from start on. Assumes nothing.
use Rattle.matching.specs.Slots.{Added}
use Rattle.matching.proofs.slots.Layout.add.Given as goal

abbrev pub invariant-loop-i : goal.invariant-loop-i
invariant-loop-i l = Added l.start l.m l.k l.i l.initial.self.owner l.initial.self.kind l.self.owner l.self.kind
