-- The radius, by steps: no candidate below the present one has an assignment; and how far a rejection reaches. "None" ranges over all
-- radii of an interval, not over candidates, so that a jump needs no list of candidates. Assumes nothing.
use Rattle.std.specs.Prelude.{ℕ, ◌≤◌, ◌<◌, ◌≡◌, ◌⊎◌, List}
use Rattle.lists.specs.Lists.{◌among◌}
use Rattle.study.specs.Problem.{Problem, candidates}
use Rattle.study.specs.Theorems.{Assignment}

-- no assignment at g
abbrev pub Empty : Problem → ℕ → Type 0
Empty P g = (xs : List ℕ) → Assignment P g xs → ⊥

-- g is a candidate, and no candidate below it has an assignment
pub record Lowest (P : Problem) (g : ℕ) : Type 0 where
  pub held : g among candidates P
  pub below : (h : ℕ) → h among candidates P → h < g → Empty P h

-- one more than the greatest distance: no radius is so great
abbrev pub no_radius : ℕ
no_radius = 1048576

-- r is a candidate, or above every distance
abbrev pub Ahead : Problem → ℕ → Type 0
Ahead P r = (r ≡ no_radius) ⊎ (r among candidates P)

-- no radius from g up to r has an assignment
abbrev pub NoneTo : Problem → ℕ → ℕ → Type 0
NoneTo P g r = (h : ℕ) → g ≤ h → h < r → Empty P h
