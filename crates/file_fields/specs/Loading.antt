-- Read's tides, one by one: the first t tides of a file, laid out in memory, and what the next tide makes of it. Assumes nothing.
use Rattle.std.specs.Prelude.{ℕ, ◌≤◌, ◌≡◌, List, [], ◌∷◌, length, Result, Ok, Err}
use Rattle.lists.specs.Lists.{tabulate}
use Rattle.study.specs.Limits.{max_tides, table_size}
use Rattle.study.specs.Study.{Contents}
use Rattle.study.specs.Refusals.{Verdict, accepted, refused, first_of, numbered}
use Rattle.file_format.specs.Bits.{bits_at}
use Rattle.file_format.specs.File.{bit_length, counts_in, counts_at, minima_at, tide_at, read_reasons}
use Rattle.file_format.specs.Head.{Head, Clear}
use Rattle.validity.specs.Memory.{distances_of, settings_of}
use Rattle.study.specs.declared.Refusal.{Refusal}
use Rattle.study.specs.Calls.{Pair, first_violation}
use Rattle.bit_reader.specs.declared.Place.{Place}
use Rattle.bit_reader.specs.Fields.{BitsRead}

-- the file's contents with its first t tides
unfoldable pub part : List ℕ → ℕ → Contents
part s t =
    let k = bits_at s 15 4 in
    record { study = record { k = k; minima = minima_at s k; tides = tabulate t (tide_at s k) }; withdrawals = counts_at s }

-- memory that holds the first t tides, where no reason for a refusal was met
pub record Loaded (s : List ℕ) (t : ℕ) (matrix vector : List ℕ) : Type 0 where
  pub head : Head s
  pub clear : Clear s t
  pub distances : matrix ≡ distances_of (part s t).study matrix
  pub settings : vector ≡ settings_of (part s t).study vector
  pub long : table_size ≤ length matrix
  pub enough : max_tides ≤ length vector

-- an answer on the way: t tides are loaded, or the reading ends with Read's own refusal
pub record Reading (s : List ℕ) (t : ℕ) (a : Result Unit Refusal) (matrix vector : List ℕ) : Type 0 where
  pub goes : a ≡ Ok tt → Loaded s t matrix vector
  pub stops : (why : Refusal) → a ≡ Err why → first_of (read_reasons s) ≡ refused (numbered why)

-- the first t tides are read: memory holds them, and tide t would begin at p
pub record TidesRead (s : List ℕ) (t : ℕ) (p : Place) (matrix vector : List ℕ) : Type 0 where
  pub loaded : Loaded s t matrix vector
  pub here : BitsRead p (bit_length (counts_in s) (bits_at s 15 4) t)

-- what a tide makes of the reading: an answer on the way, and the place past the first t tides
pub record TideRead (s : List ℕ) (t : ℕ) (r : Result Unit Refusal) (p : Place) (matrix vector : List ℕ) : Type 0 where
  pub reading : Reading s t r matrix vector
  pub past : r ≡ Ok tt → BitsRead p (bit_length (counts_in s) (bits_at s 15 4) t)

-- the answer of a row, by the pairs that violate the triangle inequality with it
abbrev pub violation_verdict : List Pair → Verdict
violation_verdict [] = accepted
violation_verdict (p ∷ ps) = refused (first_violation (p ∷ ps))
