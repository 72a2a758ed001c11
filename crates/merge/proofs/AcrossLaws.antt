-- Laws of the least sum through a shared tide: with both old tables it obeys the triangle inequality, and at a shared tide it is the distance
-- in the study of the other. Assumes nothing.
use Prim.Native.Nat.{ℕ, ◌+◌, ◌≤◌, ◌<◌}
use native.Mathlib.Omega.{arith}
use mathlib.Core.Path.{◌≡◌}
use Rattle.lists.specs.Lists.{tabulate}
use Rattle.lists.proofs.Members.{least_mem, least_le}
use Rattle.lists.proofs.Tables.{mem_tabulate, tabulate_mem}
use Rattle.study.specs.Study.{Study, size, distance, TriangleInequality}
use Rattle.study.specs.Triangle.{Triangle}
use Rattle.study.proofs.StudyLaws.{distance_both_ways, distance_itself}
use Rattle.merge.specs.Merge.{Shared, way, across}
use Rattle.merge.specs.Theorems.{Agree}

module _ (A B : Study) (P : Shared) where
  -- it is at most each sum
  pub across_le : (i j q : ℕ) → q < P.pairs → across A B P i j ≤ way A B P i j q
  unfolding across
  across_le i j q l = least_le (tabulate P.pairs (way A B P i j)) (mem_tabulate P.pairs (way A B P i j) q l)

  -- and is one of them
  pub record Through (i j : ℕ) : Type 0 where
    pub pair : ℕ
    pub inside : pair < P.pairs
    pub sum : across A B P i j ≡ way A B P i j pair

  pub through : 0 < P.pairs → (i j : ℕ) → Through i j
  unfolding across
  through some i j =
      let ways = way A B P i j in
      let w = tabulate_mem P.pairs ways (least_mem (tabulate P.pairs ways) (mem_tabulate P.pairs ways 0 some)) in
      record { pair = w.0; inside = w.1; sum = w.2 }

module _ (A B : Study) (P : Shared) (G : Agree A B P) where
  abbrev d_a : ℕ → ℕ → ℕ
  d_a = distance A

  abbrev d_b : ℕ → ℕ → ℕ
  d_b = distance B

  abbrev cross : ℕ → ℕ → ℕ
  cross = across A B P

  -- the pair by which the way goes, with the sum written out
  record Via (i j : ℕ) : Type 0 where
    pair : ℕ
    inside : pair < P.pairs
    sum : across A B P i j ≡ distance A i (P.first pair) + distance B (P.second pair) j
    first_inside : P.first pair < size A
    second_inside : P.second pair < size B

  via : (i j : ℕ) → Via i j
  unfolding way
  via i j =
      let w = through A B P G.named i j in
      let q = w.pair in
      let l = w.inside in
      record { pair = q; inside = l; sum = w.sum; first_inside = G.first_inside q l; second_inside = G.second_inside q l }

  at_most : (i j q : ℕ) → q < P.pairs → across A B P i j ≤ distance A i (P.first q) + distance B (P.second q) j
  unfolding way
  at_most i j q l = across_le A B P i j q l

  -- ---- the triangle inequality, for two tides of one study and one of the other

  module _ (ruleA : TriangleInequality A) (ruleB : TriangleInequality B) where
    -- a step in the first study, or in the second, before or after the way across
    first_step : (i k j : ℕ) → i < size A → k < size A → cross i j ≤ d_a i k + cross k j
    first_step i k j a b =
        let w = via k j in
        let q = w.pair in
        omega (arith, at_most i j q w.inside, w.sum, ruleA i k (P.first q) a b w.first_inside)

    second_step : (i k j : ℕ) → k < size B → j < size B → cross i j ≤ cross i k + d_b k j
    second_step i k j a b =
        let w = via i k in
        let q = w.pair in
        omega (arith, at_most i j q w.inside, w.sum, ruleB (P.second q) k j w.second_inside a b)

    -- across and back, to another tide of the same study: two shared tides are as far apart in the one study as in the other
    first_round : (i k j : ℕ) → i < size A → k < size A → j < size B → d_a i k ≤ cross i j + cross k j
    first_round i k j a b c =
        let v = via i j in
        let w = via k j in
        let p = v.pair in
        let q = w.pair in
        omega (
          arith,
          v.sum,
          w.sum,
          ruleA i (P.first p) k a v.first_inside b,
          ruleA (P.first p) (P.first q) k v.first_inside w.first_inside b,
          distance_both_ways A (P.first q) k,
          G.distances p q v.inside w.inside,
          ruleB (P.second p) j (P.second q) v.second_inside c w.second_inside,
          distance_both_ways B j (P.second q),
        )

    second_round : (i k j : ℕ) → i < size A → k < size B → j < size B → d_b k j ≤ cross i k + cross i j
    second_round i k j a b c =
        let v = via i k in
        let w = via i j in
        let p = v.pair in
        let q = w.pair in
        omega (
          arith,
          v.sum,
          w.sum,
          ruleB k (P.second p) j b v.second_inside c,
          distance_both_ways B k (P.second p),
          ruleB (P.second p) (P.second q) j v.second_inside w.second_inside c,
          G.distances p q v.inside w.inside,
          ruleA (P.first p) i (P.first q) v.first_inside a w.first_inside,
          distance_both_ways A (P.first p) i,
        )

    -- two tides of the first study and one of the second
    pub two_first : (i k j : ℕ) → i < size A → k < size A → j < size B → Triangle (d_a i k) (cross i j) (cross k j)
    two_first i k j a b c =
        record {
          first = first_round i k j a b c;
          second = first_step i k j a b;
          third = omega (arith, first_step k i j b a, distance_both_ways A k i);
        }

    -- one of the first and two of the second
    pub two_second : (i k j : ℕ) → i < size A → k < size B → j < size B → Triangle (cross i k) (cross i j) (d_b k j)
    two_second i k j a b c =
        record {
          first = omega (arith, second_step i j k c b, distance_both_ways B j k);
          second = second_step i k j b c;
          third = second_round i k j a b c;
        }

    -- ---- at a shared tide

    -- the way to a shared tide is the first study's distance to its partner
    pub across_first : (i q : ℕ) → i < size A → q < P.pairs → cross i (P.second q) ≡ d_a i (P.first q)
    across_first i q a m =
        let w = via i (P.second q) in
        let p = w.pair in
        omega (
          arith,
          at_most i (P.second q) q m,
          distance_itself B (P.second q),
          w.sum,
          G.distances p q w.inside m,
          ruleA i (P.first p) (P.first q) a w.first_inside (G.first_inside q m),
        )

    -- and from one it is the second study's
    pub across_second : (q j : ℕ) → q < P.pairs → j < size B → cross (P.first q) j ≡ d_b (P.second q) j
    across_second q j m b =
        let w = via (P.first q) j in
        let p = w.pair in
        omega (
          arith,
          at_most (P.first q) j q m,
          distance_itself A (P.first q),
          w.sum,
          G.distances q p m w.inside,
          ruleB (P.second q) (P.second p) j (G.second_inside q m) w.second_inside b,
        )
