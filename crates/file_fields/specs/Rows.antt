-- Inner promises of Read and Write: the distances of one tide, in a file and in memory. Assumes nothing.
use Rattle.std.specs.Prelude.{ℕ, ◌+◌, ◌*◌, ◌^◌, ◌≤◌, ◌<◌, List, length}
use Rattle.lists.specs.Lists.{tabulate}
use Rattle.study.specs.Limits.{max_tides, table_size}
use Rattle.file_format.specs.Bits.{bits_at}
use Rattle.file_format.specs.File.{bit_length, counts_in}
use Rattle.bit_reader.specs.declared.Place.{Place}
use Rattle.bit_reader.specs.Fields.{BitsRead}

-- the row of tide t from a position on is inside the file s, and the table d has all its places
pub record RowInside (s d : List ℕ) (start t : ℕ) : Type 0 where
  pub few : t < max_tides
  pub long : table_size ≤ length d
  pub inside : start + 20 * t ≤ 8 * length s
  pub low : start < 2 ^ 62

-- the t distances that a file holds from a position on
abbrev pub row_record : List ℕ → ℕ → ℕ → List ℕ
row_record s start t = tabulate t (λ (i : ℕ). bits_at s (start + 20 * i) 20)

-- where the distances of tide t begin: past its setting
abbrev pub row_start : List ℕ → ℕ → ℕ
row_start s t = bit_length (counts_in s) (bits_at s 15 4) t + 3

-- they begin at p and are inside the file, and the table has all its places
pub record RowBegins (s d : List ℕ) (t : ℕ) (p : Place) : Type 0 where
  pub here : BitsRead p (row_start s t)
  pub inside : RowInside s d (row_start s t) t
