-- What the functions that write a record, a code and columns ask of their caller. Assumes nothing.
use Rattle.std.specs.Prelude.{ℕ, ◌≤◌, ◌<◌, ◌≡◌, List, length}
use Rattle.study.specs.declared.Dataset.{Dataset}
use Rattle.study.specs.Limits.{max_tides}
use Rattle.study.specs.Refusals.{Verdict, accepted}
use Rattle.c_records.specs.Record.{record_size, code}

-- the code has 32 bits
pub record Narrow (v : Verdict) : Type 0 where
  pub fits : code v < 4294967296

-- columns with `count` places each, and no more than a study has tides
pub record ColumnRoom (count : ℕ) (centres sizes diameters : List ℕ) : Type 0 where
  pub few : count ≤ max_tides
  pub in_centres : count ≤ length centres
  pub in_sizes : count ≤ length sizes
  pub in_diameters : count ≤ length diameters

-- room for the record, such a code and, of an accepted call, a number of tides of 16 bits
pub record Storable (numbers : List ℕ) (v : Verdict) (r : Dataset) : Type 0 where
  pub room : record_size ≤ length numbers
  pub narrow : Narrow v
  pub few : v ≡ accepted → r.n < 65536
