-- What the drawn numbers keep to. Assumes nothing.
use Rattle.std.specs.Prelude.{ℕ, ◌<◌, ◌≤◌, List, length, slice_index}
use Rattle.lists.specs.Lists.{sum_below}
use Rattle.study.specs.declared.Minima.{Minima}

-- a number in a range
pub record Between (low high x : ℕ) : Type 0 where
  pub above : low ≤ x
  pub below : x ≤ high

-- all numbers of a list in a range
abbrev pub AllBetween : (low high : ℕ) → List ℕ → Type 0
AllBetween low high xs = (t : ℕ) → t < length xs → Between low high (slice_index xs t)

-- minima of at most two tides for a block
pub record Modest (M : Minima) : Type 0 where
  pub small : M.b0 ≤ 2
  pub fit : sum_below 8 (λ j. slice_index M.b j) ≤ M.b0
