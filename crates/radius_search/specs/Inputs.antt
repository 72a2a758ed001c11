-- What the functions of the search may assume of the lists that they are lent. Assumes nothing.
use Rattle.std.specs.Prelude.{ℕ, ◌≤◌, List, length}
use Rattle.study.specs.Limits.{table_size}

-- room for a table of allowed pairs and for a list of n tides
pub record Room (n : ℕ) (allowed list : List ℕ) : Type 0 where
  pub allowed_long : table_size ≤ length allowed
  pub list_long : n ≤ length list
