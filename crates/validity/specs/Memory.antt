-- A record and lent memory of any length: when they are a dataset (document 01: a book as described), the contents that a dataset
-- holds, and the record and memory that hold given contents. Tides are numbered from 0. Assumes nothing.
use Rattle.std.specs.Prelude.{ℕ, ◌/◌, ◌%◌, Bool, true, cond, ◌&&◌, ◌||◌, List, [], ◌∷◌, leb, ltb, eqb, length, get_or}
use Rattle.lists.specs.Lists.{between, each, every, tabulate, overwrite, is_empty}
use Rattle.study.specs.Limits.{cell, max_tides, table_size, max_distance, max_users, max_withdrawals, max_settings}
use Rattle.study.specs.declared.Minima.{Minima}
use Rattle.study.specs.declared.Dataset.{Dataset}
use Rattle.study.specs.Study.{Tide, Study, Contents, size, tide, distance, valid_minima}
use Rattle.study.specs.Calls.{violations}

-- the record and the two pieces of memory that a call is lent
pub record State : Type 0 where
  pub dataset : Dataset
  pub distances : List ℕ
  pub settings : List ℕ

-- these three
abbrev pub state_of : Dataset → List ℕ → List ℕ → State
state_of r d s = record { dataset = r; distances = d; settings = s }

-- reason 1 of memory that has room for no dataset: fewer than 14,400 distances, in rows of 120, or than 120 setting bytes
abbrev pub is_too_short : List ℕ → List ℕ → Bool
is_too_short d s = ltb (length d) table_size || ltb (length s) max_tides

-- of the memory of a state
unfoldable pub short : State → Bool
short s = is_too_short s.distances s.settings

-- ---- reason 21

-- a setting is 1 to k; beyond the tides held it is 0
unfoldable pub valid_setting : ℕ → ℕ → List ℕ → ℕ → Bool
valid_setting k n s i = cond (ltb i n) (between 1 k (get_or s i 0)) (eqb (get_or s i 0) 0)

-- a distance is at most 1,048,575, the same both ways, 0 from a tide to itself; beyond the tides held it is 0
unfoldable pub valid_place : ℕ → List ℕ → ℕ → ℕ → Bool
valid_place n d i j =
    cond (ltb i n && ltb j n)
    (each (leb (cell d i j) max_distance ∷ eqb (cell d i j) (cell d j i) ∷ cond (eqb i j) (eqb (cell d i j) 0) true ∷ []))
    (eqb (cell d i j) 0)

-- a tide obeys the triangle inequality with every pair before it
unfoldable pub valid_row : List ℕ → ℕ → Bool
valid_row d t = is_empty (violations (cell d) t (cell d t))

-- k, n, the minima and the memory are those of a study
unfoldable pub is_study : State → Bool
is_study s =
    let k = s.dataset.k in
    let n = s.dataset.n in
    each
    (between 1 max_settings k
    ∷ leb n max_tides
    ∷ valid_minima k s.dataset.minima
    ∷ every max_tides (valid_setting k n s.settings)
    ∷ every max_tides (λ i. every max_tides (valid_place n s.distances i))
    ∷ every n (valid_row s.distances)
    ∷ [])

-- counts of withdrawals that a dataset can hold: one for each user
unfoldable pub valid_counts : List ℕ → Bool
valid_counts ws = each (eqb (length ws) max_users ∷ every max_users (λ i. leb (get_or ws i 0) max_withdrawals) ∷ [])

-- reason 21: record and memory hold a study, and the record what is kept beside it
unfoldable pub is_dataset : State → Bool
is_dataset s = each (is_study s ∷ valid_counts s.dataset.withdrawn ∷ [])

-- ---- the contents of a dataset

-- tide i
unfoldable pub tide_of : State → ℕ → Tide
tide_of s i = record { setting = get_or s.settings i 0; row = tabulate i (cell s.distances i) }

-- its study
unfoldable pub study_of : State → Study
study_of s = record { k = s.dataset.k; minima = s.dataset.minima; tides = tabulate s.dataset.n (tide_of s) }

-- its study and its counts
unfoldable pub contents_of : State → Contents
contents_of s = record { study = study_of s; withdrawals = s.dataset.withdrawn }

-- ---- the record and the memory that hold given contents; what stands past the 14,400 and the 120 places stays

-- a record with another k. What a call changes of a record is said by these four, so that all else stays
abbrev pub set_k : ℕ → Dataset → Dataset
set_k k r = record { k = k; n = r.n; minima = r.minima; withdrawn = r.withdrawn }

-- with another number of tides
abbrev pub set_size : ℕ → Dataset → Dataset
set_size n r = record { k = r.k; n = n; minima = r.minima; withdrawn = r.withdrawn }

-- with other minima
abbrev pub set_minima : Minima → Dataset → Dataset
set_minima M r = record { k = r.k; n = r.n; minima = M; withdrawn = r.withdrawn }

-- with other counts of withdrawals
abbrev pub set_counts : List ℕ → Dataset → Dataset
set_counts ws r = record { k = r.k; n = r.n; minima = r.minima; withdrawn = ws }

-- the record with these contents; what else a record keeps stays
unfoldable pub record_of : Contents → Dataset → Dataset
record_of H r = let S = H.study in set_k S.k (set_size (size S) (set_minima S.minima (set_counts H.withdrawals r)))

-- the distances in rows of max_tides
unfoldable pub distances_of : Study → List ℕ → List ℕ
distances_of S l = overwrite table_size (λ p. distance S (p / max_tides) (p % max_tides)) l

-- the settings
unfoldable pub settings_of : Study → List ℕ → List ℕ
settings_of S l = overwrite max_tides (λ i. (tide S i).setting) l

-- the record and memory of a state with other contents
unfoldable pub stored : Contents → State → State
stored H s = state_of (record_of H s.dataset) (distances_of H.study s.distances) (settings_of H.study s.settings)
