-- Sizes and diameters of the blocks, counted tide after tide. Assumes nothing.
use Rattle.std.specs.Prelude.{ℕ, suc, ◌<◌, ◌≡◌, cond, List, eqb, length, get_or}
use Rattle.lists.specs.Lists.{count_below, greatest}
use Rattle.study.specs.Limits.{max_tides}
use Rattle.study.specs.Problem.{block}
use Rattle.radius_theory.specs.Arrays.{within}

-- the greatest distance of t from a tide below k of its block, or 0
unfoldable pub farthest_of : List ℕ → ℕ → (ℕ → ℕ) → ℕ → ℕ → ℕ
farthest_of d n D t k = greatest k (λ u. cond (eqb (D u) (D t)) (within d n u t) 0)

-- the greatest of these over the tides below k of block m
unfoldable pub across_of : List ℕ → ℕ → (ℕ → ℕ) → ℕ → ℕ → ℕ
across_of d n D m k = greatest k (λ t. cond (eqb (D t) m) (farthest_of d n D t t) 0)

-- the greatest of these over all tides below k
unfoldable pub widest_of : List ℕ → ℕ → (ℕ → ℕ) → ℕ → ℕ
widest_of d n D k = greatest k (λ t. farthest_of d n D t t)

-- sizes, diameters and the greatest diameter, of the tides below t
pub record Measured (d : List ℕ) (n : ℕ) (D : ℕ → ℕ) (t : ℕ) (sizes diameters : List ℕ) (widest : ℕ) : Type 0 where
  pub sizes_long : length sizes ≡ max_tides
  pub diameters_long : length diameters ≡ max_tides
  pub size : (i : ℕ) → i < max_tides → get_or sizes i 0 ≡ count_below t (block D (suc i))
  pub across : (i : ℕ) → i < max_tides → get_or diameters i 0 ≡ across_of d n D (suc i) t
  pub greatest_is : widest ≡ widest_of d n D t
