-- The radius, centres and list that the search ends with are those of the problem. Assumes nothing.
use Rattle.std.specs.Prelude.{ℕ, suc, ◌≤◌, ◌<◌, ◌≡◌, List, ◌++◌, length, get_or, drop}
use Rattle.lists.specs.Lists.{count_below}
use Rattle.study.specs.Limits.{max_tides}
use Rattle.study.specs.Problem.{centres, block, labels, radius, blocking, diameter, greatest_diameter}
use Rattle.promise.specs.Promise.{Test}
use Rattle.radius_theory.specs.Arrays.{array_problem}
use Rattle.radius_search.specs.Front.{CentresAt}

-- what the core hands back of the problem P: block count, radius, greatest diameter; and for each block its centre, tides and diameter
pub record Blocks (d : List ℕ) (n : ℕ) (E : Test) (count₁ radius₁ widest : ℕ) (cs sizes diameters : List ℕ) : Type 0 where
  pub few : count₁ ≤ n
  pub centres_long : length cs ≡ max_tides
  pub centre_below : (i : ℕ) → i < count₁ → get_or cs i 0 < n
  pub count_is : count₁ ≡ length (centres (array_problem d n E) (radius (array_problem d n E)))
  pub radius_of : radius₁ ≡ radius (array_problem d n E)
  pub widest_of : widest ≡ greatest_diameter (array_problem d n E) (labels (blocking (array_problem d n E)))
  pub centre_of_lem : (i : ℕ) → i < count₁ → get_or cs i 0 ≡ get_or (centres (array_problem d n E) (radius (array_problem d n E))) i 0
  pub size_of : (i : ℕ) → i < count₁ → get_or sizes i 0 ≡ count_below n (block (labels (blocking (array_problem d n E))) (suc i))
  pub diameter_of : (i : ℕ) → i < count₁ → get_or diameters i 0 ≡ diameter (array_problem d n E) (labels (blocking (array_problem d n E))) (suc i)

-- radius, centres and list are those of the problem
pub record Assigns (d : List ℕ) (n : ℕ) (E : Test) (radius₁ count₁ : ℕ) (cs old list : List ℕ) : Type 0 where
  pub radius_of : radius₁ ≡ radius (array_problem d n E)
  pub centres_of : CentresAt d n radius₁ count₁ cs
  pub list_of : list ≡ blocking (array_problem d n E) ++ drop n old
  pub same_length : length list ≡ length old
  pub low : (t : ℕ) → t < n → 1 ≤ labels list t
  pub high : (t : ℕ) → t < n → labels list t ≤ max_tides
  pub same : (t : ℕ) → t < n → labels list t ≡ labels (blocking (array_problem d n E)) t
