-- What the functions that fill, close and print a table ask of each other. Assumes nothing.
use Rattle.std.specs.Prelude.{ℕ, ◌+◌, ◌*◌, ◌≤◌, cond, List, ltb, length, get_or}
use Rattle.lists.specs.Lists.{tabulate}
use Rattle.study.specs.Limits.{cell}
use Rattle.study.specs.declared.Dataset.{Dataset}
use Rattle.study.specs.Study.{Tide, Study}
use Rattle.metric_closure.specs.Call.{entry}
use Rattle.metric_closure.specs.Tables.{Fits, InRange}

-- the distance of two tides where only the later one's row is stored; 0 from a tide to itself
unfoldable pub lower_cell : List ℕ → ℕ → ℕ → ℕ
lower_cell d i j = cond (ltb i j) (cell d j i) (cond (ltb j i) (cell d i j) 0)

-- tide t by its setting and its row of a table of n rows of n
unfoldable pub tide_at : ℕ → List ℕ → List ℕ → ℕ → Tide
tide_at n settings table t = record { setting = get_or settings t 0; row = tabulate t (entry n table t) }

-- the study of a record, with such tides
unfoldable pub study_at : Dataset → List ℕ → List ℕ → Study
study_at r settings table = record { k = r.k; minima = r.minima; tides = tabulate r.n (tide_at r.n settings table) }

-- numbers of at most seven digits, and room for them with a byte after each
pub record Printable (xs : List ℕ) (at : ℕ) (out : List ℕ) : Type 0 where
  pub near : InRange (length xs) xs
  pub room : at + 8 * length xs ≤ length out

-- a table whose lines can be put: its places, its distances, and a setting for each tide
pub record PrintableTable (n : ℕ) (settings table : List ℕ) : Type 0 where
  pub fits : Fits n table
  pub near : InRange (n * n) table
  pub held : n ≤ length settings
