-- The least candidate from g on is 0 where g is 0, else the next distance above g - 1. Assumes nothing.
use native.Mathlib.Omega.{arith}
use Rattle.radius_search.proofs.NextLaws.{first_next}
use Rattle.radius_search.proofs.next.first_from.Goals as goal

pub returns : goal.returns
returns c =
    let args = c.args in
    first_next args.study.now.distances.now args.study.now.tides.n args.g (omega arith) c.next_of_all.ensures
