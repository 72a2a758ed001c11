-- What the calls for C are lent: a dataset's record as 15 numbers, k, n, b0, b1 .. b8 and each user's withdrawals, and its memory; and the code
-- that they answer. Assumes nothing.
use Rattle.std.specs.Prelude.{ℕ, ◌+◌, ◌*◌, List, ◌∷◌, ◌++◌, get_or}
use Rattle.lists.specs.Lists.{tabulate}
use Rattle.study.specs.Limits.{max_settings, max_users}
use Rattle.study.specs.declared.Minima.{Minima}
use Rattle.study.specs.declared.Dataset.{Dataset}
use Rattle.study.specs.Refusals.{number, seven, Verdict, accepted, refused}
use Rattle.validity.specs.Memory.{State, state_of}

-- ---- the record and the memory that the caller lends

-- what every call is lent: the dataset's record as numbers, and its memory
pub record Lent : Type 0 where
  pub numbers : List ℕ
  pub distances : List ℕ
  pub settings : List ℕ

-- the three lists together, so that one equation speaks of all of them
abbrev pub lent : List ℕ → List ℕ → List ℕ → Lent
lent n d s = record { numbers = n; distances = d; settings = s }

-- minima in 9 numbers from place p on: b0, b1 .. b8
unfoldable pub minima_at : ℕ → List ℕ → Minima
minima_at p l = record { b0 = get_or l p 0; b = tabulate max_settings (λ j. get_or l (p + 1 + j) 0) }

-- how many numbers a dataset's record has
abbrev pub record_size : ℕ
record_size = 15

-- the record in them, each as it is given
unfoldable pub dataset_of : List ℕ → Dataset
dataset_of l = record { k = get_or l 0 0; n = get_or l 1 0; minima = minima_at 2 l; withdrawn = tabulate max_users (λ i. get_or l (11 + i) 0) }

-- the numbers of a record, as they are written
unfoldable pub numbers_of : Dataset → List ℕ
numbers_of r = r.k ∷ r.n ∷ r.minima.b0 ∷ (r.minima.b ++ r.withdrawn)

-- what the call looks at; a number that no dataset has, such as k = 300, makes it no dataset (21)
unfoldable pub state_in : Lent → State
state_in l = state_of (dataset_of l.numbers) l.distances l.settings

-- ---- the answer

-- 0, or the refusal's number; for 7 its pair besides
abbrev pub code : Verdict → ℕ
code accepted = 0
code (refused (number m)) = m
code (refused (seven i j)) = 7 + 256 * i + 65536 * j
