-- The front of a table holds a list; the centres among the first tides as such a list. Assumes nothing.
use Rattle.std.specs.Prelude.{ℕ, ◌≡◌, Bool, List, ltb, length, take}
use Rattle.lists.specs.Lists.{all_of}
use Rattle.study.specs.Limits.{max_tides}
use Rattle.study.specs.Problem.{centres_among}
use Rattle.radius_theory.specs.Arrays.{within}

-- the first count places of the table hold the list l
pub record Front (table : List ℕ) (count : ℕ) (l : List ℕ) : Type 0 where
  pub size : length table ≡ max_tides
  pub long : length l ≡ count
  pub front : take count table ≡ l

-- the first count places of cs hold the centres at radius g
pub record CentresAt (d : List ℕ) (n g count : ℕ) (cs : List ℕ) : Type 0 where
  pub front : Front cs count (centres_among (within d n) g n)

-- r says whether tide t is farther than g from each of the first count tides of a table
pub record FarFrom (d : List ℕ) (n g t count : ℕ) (table : List ℕ) (r : Bool) : Type 0 where
  pub is : r ≡ all_of (λ c. ltb g (within d n c t)) (take count table)
