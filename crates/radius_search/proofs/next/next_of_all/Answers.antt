-- best is the next radius over the rows of the tides below c. Assumes nothing.
use Rattle.radius_search.proofs.NextLaws.{rows_step}
use Rattle.radius_search.proofs.next.next_of_all.Goals as goal

pub loop-c-preserved : goal.loop-c-preserved
loop-c-preserved c =
    let args = c.args in
    let turn = c.loop-c in
    rows_step args.study.now.distances.now args.study.now.tides.n (λ i. i) turn.c turn.invariant c.next_in_row-best.ensures
