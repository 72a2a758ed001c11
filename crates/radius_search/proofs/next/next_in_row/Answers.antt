-- best is the next radius over the distances from tide c to the tides below t. Assumes nothing.
use Rattle.radius_search.proofs.NextLaws.{row_step}
use Rattle.radius_search.proofs.next.next_in_row.Goals as goal

pub loop-t-preserved : goal.loop-t-preserved
loop-t-preserved c =
    let args = c.args in
    let turn = c.loop-t in
    row_step args.study.now.distances.now args.c turn.t turn.invariant (rw c.distance.ensures at c.closer-best.ensures)
