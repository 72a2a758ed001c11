-- The tides below t are fixed: the table has the assignments of the first table that agree with list below t, none of which comes before
-- it. Assumes nothing.
use Rattle.first_assignment.proofs.FirstLaws.{fixed_more, chosen_ranked}
use Rattle.lists.proofs.Tables.{tail_trans}
use Rattle.first_assignment.proofs.first.first_assignment.Goals as goal

pub loop-t-preserved : goal.loop-t-preserved
loop-t-preserved c =
    let now = c.loop-t.invariant in
    let ranks = c.rank_blocks.ensures in
    let chosen = c.choose.ensures in
    (ranks.blocks, tail_trans now.1 chosen.tail_kept, fixed_more now.2 (chosen_ranked _ c.loop-t-test.true ranks.blocks ranks.by_block chosen.chosen))
