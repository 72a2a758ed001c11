-- What is proved of the closure, for every number of tides and every table; there are no proofs here. `for_table` and `for_call` of
-- Proofs.antt prove `EveryTable` and `EveryCall`. Assumes nothing.
use Rattle.std.specs.Prelude.{ℕ, ◌+◌, ◌*◌, ◌≤◌, ◌<◌, ◌≡◌, ◌↔◌, List, length, drop}
use Rattle.lists.specs.Lists.{◌among◌}
use Rattle.study.specs.Limits.{max_tides, max_distance}
use Rattle.study.specs.Refusals.{Numbered, Verdict, accepted, refused, value, refusal, IsFirst}
use Rattle.metric_closure.specs.Closure.{chain_sum, closure, lowered_pairs}
use Rattle.metric_closure.specs.Call.{entry, close_reasons, close_verdict, close_answer, close_leaves}

-- n tides: the distances are the same both ways, and 0 from a tide to itself
pub record Dissimilarity (n : ℕ) (dist : ℕ → ℕ → ℕ) : Type 0 where
  pub both_ways : (i j : ℕ) → i < n → j < n → dist i j ≡ dist j i
  pub itself : (i : ℕ) → i < n → dist i i ≡ 0

-- the triangle inequality (document 01: the three-tide rule)
pub record TriangleInequality (n : ℕ) (dist : ℕ → ℕ → ℕ) : Type 0 where
  pub triangle : (t u v : ℕ) → t < n → u < n → v < n → dist t v ≤ dist t u + dist u v

-- nowhere above
pub record Below (n : ℕ) (lower upper : ℕ → ℕ → ℕ) : Type 0 where
  pub below : (i j : ℕ) → i < n → j < n → lower i j ≤ upper i j

-- a chain of n tides from i to j whose sum is s
pub record Chain (n : ℕ) (dist : ℕ → ℕ → ℕ) (i j s : ℕ) : Type 0 where
  pub between : List ℕ
  pub inside : (t : ℕ) → t among between → t < n
  pub sums : chain_sum dist i between j ≡ s

-- document 02's sentences on the mended table
pub record ForTable (n : ℕ) (dist : ℕ → ℕ → ℕ) : Type 0 where
  -- the least sum over any chain: no chain has less, and some chain has it
  pub least : (i j s : ℕ) → Chain n dist i j s → closure n dist i j ≤ s
  pub attained : (i j : ℕ) → Chain n dist i j (closure n dist i j)
  -- it obeys the triangle inequality, is the same both ways, and is nowhere above the table
  pub obeys : TriangleInequality n (closure n dist)
  pub symmetric : Dissimilarity n (closure n dist)
  pub lower : Below n (closure n dist) dist
  -- whatever obeys the triangle inequality and is nowhere above the table is nowhere above the closure
  pub greatest : (other : ℕ → ℕ → ℕ) → TriangleInequality n other → Below n other dist → Below n other (closure n dist)
  -- a table that obeys is its own closure; then, and only then, no pair is lowered
  pub own : TriangleInequality n dist → (i j : ℕ) → i < n → j < n → closure n dist i j ≡ dist i j
  pub none_lowered : lowered_pairs n dist ≡ 0 ↔ TriangleInequality n dist

-- of any distances that are the same both ways, with 0 from each tide to itself
abbrev pub EveryTable : Type 0
EveryTable = (n : ℕ) (dist : ℕ → ℕ → ℕ) → Dissimilarity n dist → ForTable n dist

-- a table in memory that no reason refuses
pub record Closable (n : ℕ) (l : List ℕ) : Type 0 where
  pub few : n ≤ max_tides
  pub fits : n * n ≤ length l
  pub near : (i j : ℕ) → i < n → j < n → entry n l i j ≤ max_distance
  pub symmetric : Dissimilarity n (entry n l)

-- what the call does
pub record ForCall (n : ℕ) (l : List ℕ) : Type 0 where
  -- demand 1: the answer is the first of document 02's reasons that holds, and accepted where none does; there is no other such answer, and a
  -- refused call leaves the table as it was
  pub first : IsFirst (close_reasons n l) (close_verdict n l)
  pub only : (v : Verdict) → IsFirst (close_reasons n l) v → v ≡ close_verdict n l
  pub unchanged : (r : Numbered) → close_verdict n l ≡ refused r → (close_answer n l ≡ refusal r) × (close_leaves n l ≡ l)
  -- the reasons are exact
  pub exactly : close_verdict n l ≡ accepted ↔ Closable n l
  -- what an accepted call answers and leaves: the closure in the first n · n places, and all else as it was
  pub answer : Closable n l → close_answer n l ≡ value (lowered_pairs n (entry n l))
  pub lowered : Closable n l → (i j : ℕ) → i < n → j < n → entry n (close_leaves n l) i j ≡ closure n (entry n l) i j
  pub past : drop (n * n) (close_leaves n l) ≡ drop (n * n) l
  pub as_long : length (close_leaves n l) ≡ length l
  -- a table that obeyed the triangle inequality comes back untouched
  pub untouched : TriangleInequality n (entry n l) → close_leaves n l ≡ l
  -- closed twice is closed once
  pub twice : close_leaves n (close_leaves n l) ≡ close_leaves n l

-- of any number of tides and any memory
abbrev pub EveryCall : Type 0
EveryCall = (n : ℕ) (l : List ℕ) → ForCall n l
