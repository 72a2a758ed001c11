-- What is proved of the merged study (document 02, 2.9); there are no proofs here. `for_pairs` and `for_merges` of Proofs.antt prove `ForPairs`
-- and `ForMerges`. Assumes nothing.
use Rattle.std.specs.Prelude.{ℕ, ◌+◌, ◌≤◌, ◌<◌, ◌≡◌, ◌↔◌, List, T, length}
use Rattle.lists.specs.Lists.{at}
use Rattle.study.specs.Limits.{max_users}
use Rattle.study.specs.Study.{Study, Contents, size, tide, distance}
use Rattle.study.specs.Refusals.{accepted, first_of}
use Rattle.study.specs.Theorems.{ValidContents}
use Rattle.metric_closure.specs.Theorems.{TriangleInequality, Below}
use Rattle.merge.specs.Merge.{Shared, shared, rest, way, merged, place, agree, merge_reasons}

-- what reasons 17 and 16 ask, in plain words: some tide is shared, k is the same, each named tide is there, none is named twice, partners have
-- one setting, and two shared tides are as far apart in the one study as in the other
pub record Agree (A B : Study) (P : Shared) : Type 0 where
  pub named : 0 < P.pairs
  pub k : A.k ≡ B.k
  pub first_inside : (q : ℕ) → q < P.pairs → P.first q < size A
  pub second_inside : (q : ℕ) → q < P.pairs → P.second q < size B
  pub first_once : (p q : ℕ) → p < P.pairs → q < P.pairs → P.first p ≡ P.first q → p ≡ q
  pub second_once : (p q : ℕ) → p < P.pairs → q < P.pairs → P.second p ≡ P.second q → p ≡ q
  pub setting : (q : ℕ) → q < P.pairs → (tide A (P.first q)).setting ≡ (tide B (P.second q)).setting
  pub distances : (p q : ℕ) → p < P.pairs → q < P.pairs → distance A (P.first p) (P.first q) ≡ distance B (P.second p) (P.second q)

-- reason 16, where 17 doesn't hold, is exact: none of the numbers is 0, and so it is with the tides that they name
abbrev pub ForPairs : Type 0
ForPairs =
    (A B : Study) (firsts seconds : List ℕ) → let P = shared firsts seconds in 0 < P.pairs
    → T (agree A B firsts seconds) ↔ (((q : ℕ) → q < P.pairs → (1 ≤ at firsts q) × (1 ≤ at seconds q)) × Agree A B P)

-- a table of the merged tides keeps both old ones
pub record Keeps (A B : Study) (P : Shared) (dist : ℕ → ℕ → ℕ) : Type 0 where
  pub first : (t u : ℕ) → t < size A → u < size A → dist t u ≡ distance A t u
  pub second : (i j : ℕ) → i < size B → j < size B → dist (place A P i) (place A P j) ≡ distance B i j

-- x is the least sum through a shared tide from tide i of the first study to tide j of the second: some sum is x, and none is less
pub record LeastSum (A B : Study) (P : Shared) (i j x : ℕ) : Type 0 where
  pub pair : ℕ
  pub inside : pair < P.pairs
  pub attained : x ≡ way A B P i j pair
  pub least : (q : ℕ) → q < P.pairs → x ≤ way A B P i j q

-- document 02's sentences on the merged study M of two studies
pub record Merges (A B : Study) (P : Shared) (M : Study) : Type 0 where
  -- it has the first study's tides and then the second's remaining ones in order; a shared tide is its partner, and no two are one
  pub size_is : size M ≡ size A + length (rest B P)
  pub place_shared : (q : ℕ) → q < P.pairs → place A P (P.second q) ≡ P.first q
  pub place_rest : (r : ℕ) → r < length (rest B P) → place A P (at (rest B P) r) ≡ size A + r
  pub place_inside : (j : ℕ) → j < size B → place A P j < size M
  pub place_apart : (i j : ℕ) → i < size B → j < size B → place A P i ≡ place A P j → i ≡ j
  pub first_setting : (t : ℕ) → t < size A → (tide M t).setting ≡ (tide A t).setting
  pub second_setting : (j : ℕ) → j < size B → (tide M (place A P j)).setting ≡ (tide B j).setting
  -- the first's k and minima
  pub k : M.k ≡ A.k
  pub minima : M.minima ≡ A.minima
  -- a tide from one and a tide from the other, shared or not, are at the least sum through a shared tide
  pub least_sum : (i j : ℕ) → i < size A → j < size B → LeastSum A B P i j (distance M i (place A P j))
  -- the table keeps both old ones, obeys the triangle inequality, and is the greatest that does so
  pub keeps : Keeps A B P (distance M)
  pub obeys : TriangleInequality (size M) (distance M)
  pub greatest : (dist : ℕ → ℕ → ℕ) → TriangleInequality (size M) dist → Keeps A B P dist → Below (size M) dist (distance M)

-- for valid contents and any pairs, where no reason holds
pub record ForContents (A B : Contents) (firsts seconds : List ℕ) : Type 0 where
  pub agree : Agree A.study B.study (shared firsts seconds)
  pub merges : Merges A.study B.study (shared firsts seconds) (merged A B firsts seconds).study
  -- each user's withdrawals are added
  pub counts : (i : ℕ) → i < max_users → at (merged A B firsts seconds).withdrawals i ≡ at A.withdrawals i + at B.withdrawals i
  -- what is proved of all valid contents is so proved of the merged ones: they have a file, and their blocking is within the bound
  pub valid : ValidContents (merged A B firsts seconds)

-- of what any two datasets hold
abbrev pub ForMerges : Type 0
ForMerges =
    (A B : Contents) (firsts seconds : List ℕ) → ValidContents A → ValidContents B → first_of (merge_reasons A B firsts seconds) ≡ accepted
    → ForContents A B firsts seconds
