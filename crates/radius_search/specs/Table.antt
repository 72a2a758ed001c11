-- The table of allowed pairs, a row of max_tides for each block: tide t may go to block m whose centre is at most g away. Assumes nothing.
use Rattle.std.specs.Prelude.{ℕ, ◌<◌, ◌≡◌, List, leb, length, get_or}
use Rattle.lists.specs.Lists.{bit}
use Rattle.study.specs.Limits.{cell, max_tides}

-- the entry of tide t and block m
abbrev pub entry : List ℕ → List ℕ → ℕ → ℕ → ℕ → ℕ
entry d cs g t m = bit (leb (cell d (get_or cs m 0) t) g)

-- row m, of a block with the centre c, is right up to tide i; the other rows stay
pub record RowTo (d : List ℕ) (c g m i : ℕ) (old new : List ℕ) : Type 0 where
  pub same_length : length new ≡ length old
  pub other : (y t : ℕ) → t < max_tides → (y ≡ m → ⊥) → cell new y t ≡ cell old y t
  pub here : (t : ℕ) → t < i → cell new m t ≡ bit (leb (cell d c t) g)

-- the rows of the first blocks are right
pub record Table (d cs : List ℕ) (g count n : ℕ) (old new : List ℕ) : Type 0 where
  pub same_length : length new ≡ length old
  pub here : (t m : ℕ) → t < n → m < count → cell new m t ≡ entry d cs g t m
