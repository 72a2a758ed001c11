-- The slots of the first m blocks stand. Assumes nothing.
use Rattle.matching.proofs.Laying.{LaidOut}
use Rattle.matching.proofs.slots.Layout.lay_out.Given as goal

abbrev pub invariant-loop-m : goal.invariant-loop-m
invariant-loop-m l = LaidOut l.m l.self.slots l.minima.b0 l.minima.b l.self.owner l.self.kind
