-- The minima of all blocks as slots, and what the functions that lay them out leave. Slot s has the block at owner s and the kind
-- at kind s: a setting, or 0 for any. Assumes nothing.
use Rattle.std.specs.Prelude.{◌≡◌, List, Bool, cond, ℕ, ◌+◌, ◌*◌, ◌-◌, length}
use Rattle.lists.specs.Lists.{sum_below, count_below, at}
use Rattle.study.specs.Limits.{max_tides, max_settings}

-- the minima of the settings together
abbrev pub total : List ℕ → ℕ
total b = sum_below max_settings (λ j. at b j)

-- how many of the slots of block m pass a test of block and kind: at b j of the kind j + 1, and the rest of b0 of kind 0
unfoldable pub block_sum : (Q : ℕ → ℕ → Bool) (b0 : ℕ) (b : List ℕ) (m : ℕ) → ℕ
block_sum Q b0 b m = sum_below max_settings (λ j. cond (Q m (j + 1)) (at b j) 0) + cond (Q m 0) (b0 - total b) 0

-- a test of a slot's block and kind
abbrev pub slot_test : (Q : ℕ → ℕ → Bool) (owner kind : List ℕ) → ℕ → Bool
slot_test Q owner kind s = Q (at owner s) (at kind s)

-- owner and kind list the slots of the blocks below blocks, in some order: for every test, as many slots pass as the minima say
pub record Slots (blocks b0 : ℕ) (b owner kind : List ℕ) : Type 0 where
  pub law : (Q : ℕ → ℕ → Bool) → count_below (blocks * b0) (slot_test Q owner kind) ≡ sum_below blocks (block_sum Q b0 b)

-- the tables of the slots' blocks and kinds
pub record Tables (owner kind : List ℕ) : Type 0 where
  pub owner_long : length owner ≡ max_tides
  pub kind_long : length kind ≡ max_tides

-- size slots of block m and kind k stand from pos on, behind the slots that were there
pub record Added (pos m k size : ℕ) (owner₀ kind₀ owner kind : List ℕ) : Type 0 where
  pub tables : Tables owner kind
  pub law : (Q : ℕ → ℕ → Bool) → count_below (pos + size) (slot_test Q owner kind) ≡ count_below pos (slot_test Q owner₀ kind₀) + cond (Q m k) size 0

-- the slots of block m stand from start on
pub record BlockAdded (start m b0 : ℕ) (b owner₀ kind₀ owner kind : List ℕ) : Type 0 where
  pub tables : Tables owner kind
  pub law : (Q : ℕ → ℕ → Bool) → count_below (start + b0) (slot_test Q owner kind) ≡ count_below start (slot_test Q owner₀ kind₀) + block_sum Q b0 b m
