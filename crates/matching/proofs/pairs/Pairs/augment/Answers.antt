-- The tree of the root alone is grown; where it meets a free tide, the path to it is shifted, and where it meets none, no matching gives every
-- slot a tide. There is no loop. Assumes nothing.
use Rattle.std.proofs.Common.{rules}
use Rattle.matching.proofs.Turns.{alone}
use Rattle.matching.proofs.pairs.Pairs.augment.Goals as goal

pub grow-requires-clause-tree : goal.grow-requires-clause-tree
grow-requires-clause-tree c =
    let root = c.requires.root_lt_slots in
    let z = c.args.graph.now.sized in
    let e = c.plant.ensures in
    rw (e.from_after, e.rank_after, e.queue_after, e.tail_after) (alone _ (search rules) z.few_slots z.few_tides root.0 root.1)
