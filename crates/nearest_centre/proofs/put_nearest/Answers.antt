-- The first t places of both lists hold the nearest centres' numbers and distances, and the others stay. Assumes nothing.
use Rattle.lists.proofs.Fills.{filled_none, filled_more}
use Rattle.nearest_centre.proofs.put_nearest.Goals as goal

pub loop-t-init : goal.loop-t-init
loop-t-init c = (filled_none, filled_none)

pub loop-t-preserved : goal.loop-t-preserved
loop-t-preserved c =
    let filled = c.loop-t.invariant in
    let found = c.nearest_to-found.ensures in
    let room = c.requires.n_in_bounds in
    let more = c.loop-t-test.true in
    (filled_more filled.0 more room.0 found.block_value, filled_more filled.1 more room.1 found.distance_value)
