-- The problem that a dataset's lists of numbers pose. Assumes nothing.
use Rattle.std.specs.Prelude.{ℕ, ◌*◌, ◌≤◌, ◌<◌, ◌≡◌, Bool, true, cond, ◌&&◌, List, T, leb, ltb, length}
use Rattle.lists.specs.Lists.{at}
use Rattle.study.specs.Limits.{cell, max_tides, max_distance}
use Rattle.study.specs.Problem.{Problem}
use Rattle.study.specs.Theorems.{Lawful}
use Rattle.promise.specs.Promise.{Test}

-- the distances of n tides, a row of max_tides places for each
pub record DistanceRows (d : List ℕ) (n : ℕ) : Type 0 where
  pub few : n ≤ max_tides
  pub distances_long : n * max_tides ≤ length d

-- the first count places of a table hold tides below n
pub record TidesIn (table : List ℕ) (count n : ℕ) : Type 0 where
  pub few : count ≤ max_tides
  pub below : (m : ℕ) → m < count → at table m < n

-- the distance of two of the first n tides, from distances in rows of max_tides; 0 beyond them
unfoldable pub within : List ℕ → ℕ → ℕ → ℕ → ℕ
within d n i j = cond (ltb i n && ltb j n) (cell d i j) 0

-- n tides with the distances d, and a test of which sets of them are sufficient
unfoldable pub array_problem : List ℕ → ℕ → Test → Problem
array_problem d n E = record { size = n; dist = within d n; enough = E }

-- what a search may assume of these lists: they are long enough; Able is what it may of the numbers that the test is made of
pub record SizedArrays (Able : Type 0) (d : List ℕ) (n : ℕ) : Type 0 where
  pub few : n ≤ max_tides
  pub distances_long : n * max_tides ≤ length d
  pub able : Able

-- P is such a problem; all its tides together are sufficient
pub record Represents (d : List ℕ) (n : ℕ) (E : Test) (P : Problem) : Type 0 where
  pub size : P.size ≡ n
  pub dist : (i j : ℕ) → i < n → j < n → P.dist i j ≡ cell d i j
  pub small : (i j : ℕ) → i < n → j < n → cell d i j ≤ max_distance
  pub enough : (p : ℕ → Bool) → P.enough p ≡ E p
  pub whole : T (P.enough (λ t. true))
  pub lawful : Lawful P

-- the tides at most g from c
abbrev pub ball : List ℕ → ℕ → ℕ → ℕ → Bool
ball d c g t = leb (cell d c t) g

-- the problem that distances and test pose themselves
abbrev pub ValidArrays : List ℕ → ℕ → Test → Type 0
ValidArrays d n E = Represents d n E (array_problem d n E)
