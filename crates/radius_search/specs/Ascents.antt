-- The radii from one upwards as far as the centres stay, and the least with an assignment. Assumes nothing.
use Rattle.std.specs.Prelude.{ℕ, ◌≤◌, ◌<◌, ◌≡◌, Bool, true, false, List, length}
use Rattle.study.specs.Problem.{Problem, labels}
use Rattle.study.specs.Theorems.{Assignment}
use Rattle.promise.specs.Promise.{Test, Assigned}
use Rattle.radius_theory.specs.Arrays.{array_problem}
use Rattle.radius_theory.specs.Radii.{Empty, Lowest, NoneTo}
use Rattle.radius_search.specs.Front.{CentresAt}
use Rattle.radius_search.specs.Table.{Table}

-- the same centres at every radius from g up to limit
pub record Steady (d : List ℕ) (n g limit count : ℕ) (cs : List ℕ) : Type 0 where
  pub stay : (h : ℕ) → g ≤ h → h < limit → CentresAt d n h count cs

-- there is an assignment at g
abbrev pub Some : Problem → ℕ → Type 0
Some P g = (xs : List ℕ) × Assignment P g xs

-- r says whether there is an assignment at g, and then list is one
pub record RadiusTried (d : List ℕ) (n : ℕ) (E : Test) (cs : List ℕ) (count g : ℕ) (old allowed list : List ℕ) (r : Bool) : Type 0 where
  pub table : Table d cs g count n old allowed
  pub found : r ≡ true → Assigned n count E allowed (labels list)
  pub none : r ≡ false → Empty (array_problem d n E) g

-- r is the least radius from start up to limit with an assignment
pub record Bisected (d : List ℕ) (n : ℕ) (E : Test) (start limit r : ℕ) : Type 0 where
  pub up : start ≤ r
  pub most : r < limit
  pub none : NoneTo (array_problem d n E) start r
  pub here : Some (array_problem d n E) r

-- no candidate below r has an assignment, and r is limit, or list is an assignment in the table of r
pub record Ascent (d : List ℕ) (n : ℕ) (E : Test) (cs : List ℕ) (count start limit r : ℕ) (old allowed list : List ℕ) : Type 0 where
  pub up : start ≤ r
  pub most : r ≤ limit
  pub same_length : length allowed ≡ length old
  pub lowest : Lowest (array_problem d n E) r
  pub table : r < limit → Table d cs r count n old allowed
  pub found : r < limit → Assigned n count E allowed (labels list)

-- g is the least radius with an assignment; centres and table are those of g, and list is an assignment there
pub record Least (d : List ℕ) (n : ℕ) (E : Test) (g count : ℕ) (cs old allowed list : List ℕ) : Type 0 where
  pub centres : CentresAt d n g count cs
  pub table : Table d cs g count n old allowed
  pub found : Assigned n count E allowed (labels list)
  pub lowest : Lowest (array_problem d n E) g
