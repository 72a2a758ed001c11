-- Tables in memory, n rows of n: what the functions of the closure ask of each other. Assumes nothing.
use Rattle.std.specs.Prelude.{ℕ, ◌+◌, ◌*◌, ◌≤◌, ◌<◌, min, ◌≡◌, List, length, get_or}
use Rattle.study.specs.Limits.{max_tides, max_distance}
use Rattle.metric_closure.specs.Closure.{by_way_of}
use Rattle.metric_closure.specs.Call.{entry}

-- n rows of n, of at most 120 tides
pub record Fits (n : ℕ) (l : List ℕ) : Type 0 where
  pub few : n ≤ max_tides
  pub fits : n * n ≤ length l

-- the first m places hold at most 1,048,575
pub record InRange (m : ℕ) (l : List ℕ) : Type 0 where
  pub near : (p : ℕ) → p < m → get_or l p 0 ≤ max_distance

-- place j of a row where the way there may go by a tide at this distance, whose row is the line
unfoldable pub lesser_way : List ℕ → List ℕ → ℕ → ℕ → ℕ
lesser_way row line far j = min (get_or row j 0) (far + get_or line j 0)

-- the rows before i where the way may go by tide m; all else as before
pub record Lowered (n m i : ℕ) (old new : List ℕ) : Type 0 where
  pub long : length new ≡ length old
  pub lowered : (a b : ℕ) → a < i → b < n → entry n new a b ≡ by_way_of m (entry n old) a b
  pub rest : (p : ℕ) → i * n ≤ p → get_or new p 0 ≡ get_or old p 0
