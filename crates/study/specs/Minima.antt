-- In plain words: that a set of tides meets the minima, that minima are valid, and that Minima accepts them. The tests of Study.antt say
-- the same of the first two, by `meets-T` and `valid_minima-T` of proofs/StudyLaws.antt; of the third see `ForMinima` (Theorems). Assumes nothing.
use Rattle.std.specs.Prelude.{ℕ, suc, ◌≤◌, ◌<◌, ◌≡◌, Bool, ◌&&◌, eqb, length, get_or}
use Rattle.lists.specs.Lists.{sum_below, count_below}
use Rattle.study.specs.Limits.{max_tides, max_settings}
use Rattle.study.specs.declared.Minima.{Minima}
use Rattle.study.specs.Calls.{sum_of_parts}

-- of n tides with these settings, the set p has at least b0 tides, and at least b of each setting
pub record Meets (M : Minima) (n : ℕ) (setting : ℕ → ℕ) (p : ℕ → Bool) : Type 0 where
  pub whole : M.b0 ≤ count_below n p
  pub each : (j : ℕ) → j < max_settings → get_or M.b j 0 ≤ count_below n (λ t. p t && eqb (setting t) (suc j))

-- document 01's sentence on the minima: b0 is 1 to 120; there are 8 b's, together at most b0; those above k are 0
pub record MinimaFit (k : ℕ) (M : Minima) : Type 0 where
  pub low : 1 ≤ M.b0
  pub high : M.b0 ≤ max_tides
  pub eight : length M.b ≡ max_settings
  pub sum : sum_below max_settings (λ j. get_or M.b j 0) ≤ M.b0
  pub above : (j : ℕ) → k ≤ j → j < max_settings → get_or M.b j 0 ≡ 0

-- document 02, 2.2: b0 is 1 to 120; there are 8 b's, together at most 120; those above k are 0
pub record Acceptable (k : ℕ) (M : Minima) : Type 0 where
  pub low : 1 ≤ M.b0
  pub high : M.b0 ≤ max_tides
  pub eight : length M.b ≡ max_settings
  pub sum : sum_of_parts M ≤ max_tides
  pub above : (j : ℕ) → k ≤ j → j < max_settings → get_or M.b j 0 ≡ 0
