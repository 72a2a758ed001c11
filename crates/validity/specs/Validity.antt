-- Reason 21 in plain words: what it says that a record and memory are a dataset (document 01: a book as described). `ForDatasets`
-- (Theorems) says that the test `is_dataset` is exactly this. Assumes nothing.
use Rattle.std.specs.Prelude.{ℕ, ◌+◌, ◌≤◌, ◌<◌, ◌≡◌, ◌⊎◌, length, get_or}
use Rattle.study.specs.Limits.{cell, max_tides, table_size, max_distance, max_settings}
use Rattle.study.specs.Study.{ValidCounts}
use Rattle.validity.specs.Memory.{State}
use Rattle.study.specs.Minima.{MinimaFit}

-- document 01 on the tides, k and minima of a book, of a record and its memory; tides are numbered from 0
pub record IsStudy (s : State) : Type 0 where
  -- it holds 0 to 120 tides; k is 1 to 8
  pub few : s.dataset.n ≤ max_tides
  pub k_low : 1 ≤ s.dataset.k
  pub k_high : s.dataset.k ≤ max_settings
  -- b0 is 1 to 120; there are 8 b's, together at most b0, those above k are 0
  pub minima : MinimaFit s.dataset.k s.dataset.minima
  -- each tide has a setting from 1 to k
  pub setting_low : (i : ℕ) → i < s.dataset.n → 1 ≤ get_or s.settings i 0
  pub setting_high : (i : ℕ) → i < s.dataset.n → get_or s.settings i 0 ≤ s.dataset.k
  -- two tides have a distance from 0 to 1,048,575, the same both ways; a tide is at 0 from itself
  pub distance_high : (i j : ℕ) → i < s.dataset.n → j < s.dataset.n → cell s.distances i j ≤ max_distance
  pub both_ways : (i j : ℕ) → i < s.dataset.n → j < s.dataset.n → cell s.distances i j ≡ cell s.distances j i
  pub itself : (i : ℕ) → i < s.dataset.n → cell s.distances i i ≡ 0
  -- for any three tides, no distance exceeds the sum of the other two
  pub triangle : (t u v : ℕ) → t < s.dataset.n → u < s.dataset.n → v < s.dataset.n
      → cell s.distances t v ≤ cell s.distances t u + cell s.distances u v
  -- everything beyond the tides held is zero, in rows of 120
  pub setting_beyond : (i : ℕ) → s.dataset.n ≤ i → i < max_tides → get_or s.settings i 0 ≡ 0
  pub beyond : (i j : ℕ) → i < max_tides → j < max_tides → (s.dataset.n ≤ i) ⊎ (s.dataset.n ≤ j) → cell s.distances i j ≡ 0

-- documents 01 and 02 (2.7) on what a book is: these, and withdrawals counted for each of four users, 0 to 65,535
pub record IsDataset (s : State) : Type 0 where
  pub study : IsStudy s
  pub counts : ValidCounts s.dataset.withdrawn

-- long enough for 14,400 distances and 120 settings
pub record Long (s : State) : Type 0 where
  pub distances : table_size ≤ length s.distances
  pub settings : max_tides ≤ length s.settings
