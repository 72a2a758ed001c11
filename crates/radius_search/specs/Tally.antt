-- Tides counted by setting, and whether the counts meet the minima. Assumes nothing.
use Rattle.std.specs.Prelude.{ℕ, ◌+◌, ◌≤◌, ◌<◌, ◌≡◌, Bool, ◌&&◌, List, leb, eqb, get_or}
use Rattle.lists.specs.Lists.{every, count_below, tabulate}
use Rattle.study.specs.Limits.{max_tides, max_settings}
use Rattle.study.specs.declared.Minima.{Minima}

-- how many of the tides below t that pass p have each setting; place 0 is unused
unfoldable pub tally : List ℕ → (ℕ → Bool) → ℕ → List ℕ
tally s p t = tabulate 9 (λ j. count_below t (λ u. p u && eqb (get_or s u 0) j))

-- of the tides below t, `found` pass p, and `counts` tells their settings
pub record Tallied (s : List ℕ) (p : ℕ → Bool) (t found : ℕ) (counts : List ℕ) : Type 0 where
  pub found_is : found ≡ count_below t p
  pub counts_are : counts ≡ tally s p t

-- one more tide of this setting can be counted: no count is near its type's greatest number
pub record TallyRoom (setting found : ℕ) (counts : List ℕ) : Type 0 where
  pub setting_high : setting ≤ max_settings
  pub small : (j : ℕ) → j < 9 → get_or counts j 0 ≤ max_tides
  pub few : found ≤ max_tides

-- the count of setting j, from 0, meets its minimum
abbrev pub enough : List ℕ → List ℕ → ℕ → Bool
enough b counts j = leb (get_or b j 0) (get_or counts (j + 1) 0)

-- so many tides, of which each setting has so many, meet the minima
unfoldable pub met : Minima → ℕ → List ℕ → Bool
met M found counts = leb M.b0 found && every max_settings (enough M.b counts)
