-- The least number above g of those that Of holds of, or start where none of them is less. Assumes nothing.
use Rattle.std.specs.Prelude.{ℕ, ◌≤◌, ◌<◌, ◌≡◌, ◌⊎◌, List, get_or}
use Rattle.study.specs.Limits.{cell}
use Rattle.radius_theory.specs.Radii.{no_radius}

-- r is the least number above g and below start of those that Of holds of, or start
pub record Next (Of : ℕ → Type 0) (g start r : ℕ) : Type 0 where
  pub most : r ≤ start
  pub least : (x : ℕ) → Of x → g < x → r ≤ x
  pub is : (r ≡ start) ⊎ (Of r × (g < r))

-- x is a distance of tide c from the tides below t
abbrev pub InRow : List ℕ → ℕ → ℕ → ℕ → Type 0
InRow d c t x = (u : ℕ) × (u < t) × (x ≡ cell d c u)

-- x is a distance of the tides f 0, f 1, .. f (m - 1) from the tides below n
abbrev pub InRows : List ℕ → ℕ → (ℕ → ℕ) → ℕ → ℕ → Type 0
InRows d n f m x = (i : ℕ) × (i < m) × InRow d (f i) n x

-- x is a distance of tide i of a table from the later ones below m
abbrev pub InLater : List ℕ → List ℕ → ℕ → ℕ → ℕ → Type 0
InLater d cs i m x = (j : ℕ) × (i < j) × (j < m) × (x ≡ cell d (get_or cs i 0) (get_or cs j 0))

-- x is a distance of two tides of a table, the first below k
abbrev pub InPairs : List ℕ → List ℕ → ℕ → ℕ → ℕ → Type 0
InPairs d cs count k x = (i : ℕ) × (i < k) × InLater d cs i count x

-- x is a distance of any two of the n tides
abbrev pub InAll : List ℕ → ℕ → ℕ → Type 0
InAll d n = InRows d n (λ i. i) n

-- r is the least candidate from g on, or no_radius
pub record FirstFrom (d : List ℕ) (n g r : ℕ) : Type 0 where
  pub least : (x : ℕ) → (x ≡ 0) ⊎ InAll d n x → g ≤ x → r ≤ x
  pub is : (r ≡ no_radius) ⊎ ((r ≡ 0) ⊎ InAll d n r)
