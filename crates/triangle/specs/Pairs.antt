-- The answer of the search for the first pair of tides that violates the triangle inequality with a new tide. Assumes nothing.
use Rattle.std.specs.Prelude.{ℕ, suc, List, [], ◌∷◌, Option, Some, None}
use Rattle.study.specs.Calls.{Pair}

-- the first of these pairs, its tides numbered from 1; none where there is none
abbrev pub violation_of : List Pair → Option (ℕ × ℕ)
violation_of [] = None
violation_of (p ∷ ps) = Some (suc p.lower, suc p.upper)
