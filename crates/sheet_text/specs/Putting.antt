-- Text written after text into memory. Assumes nothing.
use Rattle.std.specs.Prelude.{ℕ, ◌+◌, ◌≤◌, ◌≡◌, List, ◌++◌, length, take, drop}

-- the text stands from `at` up to `end`; every other place is as before
pub record PutText (old : List ℕ) (at : ℕ) (text : List ℕ) (end : ℕ) (new : List ℕ) : Type 0 where
  pub is : new ≡ take at old ++ text ++ drop end old
  pub ends : end ≡ at + length text
  pub room : end ≤ length old
  pub same : length new ≡ length old
