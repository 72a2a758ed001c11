-- Inner promises, over plain tables and lists: the rows that a merge adds to the first table, and what is asked for them. Assumes nothing.
use Rattle.std.specs.Prelude.{ℕ, zero, suc, ◌+◌, ◌-◌, ◌≤◌, ◌<◌, ◌≡◌, Bool, List, ◌++◌, leb, length, take, set}
use Rattle.lists.specs.Lists.{every, tabulate, at, least}
use Rattle.study.specs.Limits.{cell, max_tides, table_size, max_distance}
use Rattle.storage.specs.Places.{with_row}
use Rattle.metric_closure.specs.Tables.{InRange}

-- ---- what is asked

-- two tables in rows of 120, all their places in range, and pairs of numbers, from 1, of their rows
pub record Tables (d1 d2 firsts seconds : List ℕ) : Type 0 where
  pub first_long : table_size ≤ length d1
  pub second_long : table_size ≤ length d2
  pub first_near : InRange table_size d1
  pub second_near : InRange table_size d2
  pub same_length : length seconds ≡ length firsts
  pub some : 0 < length firsts
  pub first_low : (q : ℕ) → q < length firsts → 1 ≤ at firsts q
  pub first_high : (q : ℕ) → q < length firsts → at firsts q ≤ max_tides
  pub second_low : (q : ℕ) → q < length firsts → 1 ≤ at seconds q
  pub second_high : (q : ℕ) → q < length firsts → at seconds q ≤ max_tides

-- the remaining tides, m rows of the second table, have room behind n others
pub record Remaining (n m : ℕ) (rest : List ℕ) : Type 0 where
  pub few : n + m ≤ max_tides
  pub size : length rest ≡ max_tides
  pub below : (r : ℕ) → r < m → at rest r < max_tides

-- ---- a row

-- the sum of two distances by pair q: in the first table to place i, in the second to place j
unfoldable pub sum_by : List ℕ → List ℕ → List ℕ → List ℕ → ℕ → ℕ → ℕ → ℕ
sum_by d1 d2 firsts seconds i j q = cell d2 (at seconds q - 1) j + cell d1 (at firsts q - 1) i

-- the least of them
unfoldable pub crossing : List ℕ → List ℕ → List ℕ → List ℕ → ℕ → ℕ → ℕ
crossing d1 d2 firsts seconds i j = least (tabulate (length firsts) (sum_by d1 d2 firsts seconds i j))

-- for each place i
unfoldable pub cross_row : List ℕ → List ℕ → List ℕ → List ℕ → ℕ → List ℕ
cross_row d1 d2 firsts seconds j = tabulate max_tides (λ i. crossing d1 d2 firsts seconds i j)

-- the remaining tide r: to the first n tides, then to the remaining ones before it
unfoldable pub added_row : ℕ → List ℕ → List ℕ → List ℕ → List ℕ → List ℕ → ℕ → List ℕ
added_row n d1 d2 firsts seconds rest r =
    take n (cross_row d1 d2 firsts seconds (at rest r)) ++ tabulate r (λ q. cell d2 (at rest q) (at rest r))

-- every distance of a row is at most 1,048,575
abbrev pub row_in_range : List ℕ → Bool
row_in_range row = every (length row) (λ i. leb (at row i) max_distance)

-- ---- what is written

-- memory after the first m of these steps
unfoldable pub stepped : (ℕ → List ℕ → List ℕ) → ℕ → List ℕ → List ℕ
stepped step zero l = l
stepped step (suc m) l = step m (stepped step m l)

-- m rows, each as Enter writes a tide's
abbrev pub with_rows : (ℕ → List ℕ) → ℕ → List ℕ → List ℕ
with_rows row = stepped (λ r. with_row (row r) (length (row r)))

-- m settings from place n on
abbrev pub with_settings : ℕ → (ℕ → ℕ) → ℕ → List ℕ → List ℕ
with_settings n v = stepped (λ r g. set g (n + r) (v r))
