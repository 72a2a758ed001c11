-- The prefilter: it raises flags for a new tide, none only where the tide obeys the triangle inequality, and, of distances of 20 bits,
-- wherever it does. A row without flags is spared the search for a violation. Statements only; their laws are in PrefilterLaws.
-- Assumes nothing.
use Rattle.std.specs.Prelude.{◌≡◌, ℕ, ◌*◌, ◌<◌, ◌≤◌, List, length, slice_index}
use Rattle.study.specs.Limits.{cell, max_distance}
use Rattle.study.specs.Triangle.{Triangle}

-- ---- one triple

-- three distances of 20 bits
pub record SmallTriple (x y z : ℕ) : Type 0 where
  pub first : x ≤ max_distance
  pub second : y ≤ max_distance
  pub third : z ≤ max_distance

-- how many flags three distances raise
pub record TripleFlags (x y z total : ℕ) : Type 0 where
  -- one for each difference, at most
  pub few : total ≤ 3
  -- no violation passes without a flag
  pub rule : total ≡ 0 → Triangle x y z
  -- and, of distances of 20 bits, nothing else raises one
  pub clear : SmallTriple x y z → Triangle x y z → total ≡ 0

-- ---- a tide at y from one tide, and at a row's distances from others, which are at a line's from that one

-- how many flags the first j of them raise
pub record RowFlags (line : List ℕ) (y : ℕ) (row : List ℕ) (j total : ℕ) : Type 0 where
  -- three for each of them, at most
  pub few : total ≤ 3 * j
  -- no violation passes without a flag
  pub rule : total ≡ 0 → (i : ℕ) → i < j → Triangle (slice_index line i) y (slice_index row i)
  -- and, of distances of 20 bits, nothing else raises one
  pub clear : ((i : ℕ) → i < j → SmallTriple (slice_index line i) y (slice_index row i))
      → ((i : ℕ) → i < j → Triangle (slice_index line i) y (slice_index row i)) → total ≡ 0

-- ---- a tide at a row's distances from all others, which are cell d's from each other

-- it obeys the triangle inequality with each pair whose lower tide is before i
pub record Obeys (d row : List ℕ) (i : ℕ) : Type 0 where
  pub rule : (u v : ℕ) → u < i → u < v → v < length row → Triangle (cell d u v) (slice_index row u) (slice_index row v)

-- all these distances have 20 bits
pub record SmallRow (d row : List ℕ) : Type 0 where
  pub own : (u : ℕ) → u < length row → slice_index row u ≤ max_distance
  pub others : (u v : ℕ) → u < v → v < length row → cell d u v ≤ max_distance
