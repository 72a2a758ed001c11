-- The centres of the problem in memory are those of the study; they are found, written as tide numbers, and each tide's nearest beside them.
-- Assumes nothing.
use native.Mathlib.Omega.{arith}
use Rattle.blocking.proofs.CentresLaws.{first_found, centres_filled}
use Rattle.radius_search.proofs.FrontLaws.{front_fits}
use Rattle.blocking.proofs.front.fill_lists.Goals as goal

pub put_centres-requires : goal.put_centres-requires
put_centres-requires c =
    let study = c.study_of-study.ensures in
    let C = rw (study.n, study.distances) at c.find_centres-centres.ensures.centres_at in
    omega (arith, c.requires.list_room, front_fits C)

pub put_nearest-requires : goal.put_nearest-requires
put_nearest-requires c =
    let pre = c.requires in
    let study = c.study_of-study.ensures in
    let found = c.find_centres-centres.ensures in
    record {
      first = first_found _ _ _ pre (rw (study.n, study.distances) at found.centres_at);
      n_in_bounds = rw (found.same, study.n) (pre.nearest_room, pre.away_room);
    }

pub returns-clause-value : goal.returns-clause-value
returns-clause-value c =
    let study = c.study_of-study.ensures in
    let found = c.find_centres-centres.ensures in
    let near = c.put_nearest.ensures in
    let C = rw (study.n, study.distances) at found.centres_at in
    (centres_filled _ _ _ c.requires C c.put_centres.ensures (rw (found.same, study.n, study.distances) at near.nearest)
    (rw (found.same, study.n, study.distances) at near.away)).0

pub returns-clause-away_value : goal.returns-clause-away_value
returns-clause-away_value c =
    let study = c.study_of-study.ensures in
    let found = c.find_centres-centres.ensures in
    let near = c.put_nearest.ensures in
    let C = rw (study.n, study.distances) at found.centres_at in
    (centres_filled _ _ _ c.requires C c.put_centres.ensures (rw (found.same, study.n, study.distances) at near.nearest)
    (rw (found.same, study.n, study.distances) at near.away)).1
