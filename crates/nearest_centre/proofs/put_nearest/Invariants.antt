-- The first t places of both lists hold the nearest centres' numbers and distances, and the others stay. Assumes nothing.
use lib.ListN.{take}
use Rattle.lists.proofs.Fills.{Filled}
use Rattle.study.specs.Problem.{nearest_distance, nearest_block}
use Rattle.radius_theory.specs.Arrays.{within}
use Rattle.nearest_centre.proofs.put_nearest.Given as goal

abbrev pub invariant-loop-t : goal.invariant-loop-t
invariant-loop-t l =
    let study = l.centres.study in
    let dist = within study.distances.now study.tides.n in
    let centres = take l.centres.count l.centres.tides in
    Filled study.tides.n (nearest_block dist centres) l.initial.nearest l.nearest l.t
    × Filled study.tides.n (nearest_distance dist centres) l.initial.away l.away l.t
