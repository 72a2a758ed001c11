-- List is an assignment that gives tide t the block v, and t has lost no block that ranks before v. What falls is the rank of v; at the
-- end no assignment gives t a block that ranks before it. Assumes nothing.
use Rattle.first_assignment.proofs.FirstLaws.{Choosing}
use Rattle.promise.specs.Met.{met}
use Rattle.lists.specs.Lists.{at}
use Rattle.first_assignment.proofs.first.choose.Given as goal

abbrev pub invariant-loop-v : goal.invariant-loop-v
invariant-loop-v l =
    Choosing (at l.ranks.by_block) l.tides.n l.ranks.blocks (met l.tides) l.t l.v l.initial.allowed l.allowed l.initial.list l.list

abbrev pub decreases-loop-v : goal.decreases-loop-v
decreases-loop-v l = at l.ranks.by_block l.v
