-- The places from the number of tides on stay, since only places of the tides are written. Assumes nothing.
use Rattle.lists.specs.Lists.{TailKept}
use Rattle.matching.proofs.assign.write_partial.Given as goal

abbrev pub invariant-loop-t : goal.invariant-loop-t
invariant-loop-t l = TailKept l.graph.tides.n l.initial.list l.list
