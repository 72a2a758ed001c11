-- Chains of tides, and the metric closure of a table of distances (document 02: the mended table). Tides are numbered from 0.
-- Assumes nothing.
use Rattle.std.specs.Prelude.{ℕ, zero, suc, ◌+◌, min, List, [], ◌∷◌, ltb}
use Rattle.lists.specs.Lists.{sum_below, count_below}

-- document 02: the sum over the chain that goes from i by these tides, in this order, to j
abbrev pub chain_sum : (ℕ → ℕ → ℕ) → ℕ → List ℕ → ℕ → ℕ
chain_sum dist i [] j = dist i j
chain_sum dist i (t ∷ ts) j = dist i t + chain_sum dist t ts j

-- the distances where the way from i to j may also go by tide m
unfoldable pub by_way_of : ℕ → (ℕ → ℕ → ℕ) → ℕ → ℕ → ℕ
by_way_of m dist i j = min (dist i j) (dist i m + dist m j)

-- the closure: the way may go by each of n tides, one tide after the other (Floyd and Warshall). `ForTable.least` and `.attained` say
-- that it is the least sum over any chain
unfoldable pub closure : ℕ → (ℕ → ℕ → ℕ) → ℕ → ℕ → ℕ
closure zero dist = dist
closure (suc m) dist = by_way_of m (closure m dist)

-- how many pairs of n tides are nearer in one table than in another: each tide i with the tides j before it
unfoldable pub nearer_pairs : ℕ → (ℕ → ℕ → ℕ) → (ℕ → ℕ → ℕ) → ℕ
nearer_pairs n new old = sum_below n (λ i. count_below i (λ j. ltb (new i j) (old i j)))

-- how many pairs the closure lowers
unfoldable pub lowered_pairs : ℕ → (ℕ → ℕ → ℕ) → ℕ
lowered_pairs n dist = nearer_pairs n (closure n dist) dist
