-- The list is written for the tides below t, and its places from the number of tides on stay. Assumes nothing.
use Rattle.matching.proofs.Writing.{WrittenTo}
use Rattle.matching.specs.Values.{slots}
use Rattle.matching.proofs.assign.write_list.Given as goal

abbrev pub invariant-loop-t : goal.invariant-loop-t
invariant-loop-t l =
    let g = l.graph in WrittenTo l.t g.tides.n g.blocks (slots g) g.allowed.now g.layout.now.owner l.pairs.slot l.initial.list l.list
