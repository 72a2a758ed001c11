-- best is the next radius over the pairs whose first tide stands before i in the table. Assumes nothing.
use Rattle.radius_search.proofs.NextLaws.{pairs_step}
use Rattle.radius_search.proofs.next.next_in_pairs.Goals as goal

pub loop-i-preserved : goal.loop-i-preserved
loop-i-preserved c =
    let args = c.args in
    let turn = c.loop-i in
    pairs_step args.centres.now.study.distances.now args.centres.now.tides args.centres.now.count turn.i turn.invariant c.next_later-best.ensures
