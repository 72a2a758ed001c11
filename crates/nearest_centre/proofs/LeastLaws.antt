-- The first place of the least of some numbers, as a loop finds it, and the nearest centre by it. Assumes nothing.
use Prim.Native.Nat.{ℕ, ◌+◌, ◌-◌, ◌≤◌, ◌<◌}
use native.Mathlib.Omega.{arith}
use mathlib.Core.Path.{◌≡◌, refl, sym, ap, ◌∙◌, subst}
use mathlib.Core.Logic.{⊎_elim}
use mathlib.Core.List.{List}
use lib.ListN.{length, get_or, take}
use lib.Seq.{get_or-take, length-take-le}
use Rattle.lists.specs.Lists.{at}
use Rattle.lists.proofs.Tests.{split}
use Rattle.study.specs.Problem.{centre_of, nearest_distance, nearest_block}
use Rattle.study.specs.Limits.{cell, max_tides}
use Rattle.study.specs.Theorems.{IsNearest}
use Rattle.radius_theory.specs.Arrays.{within, TidesIn}
use Rattle.radius_theory.proofs.ArrayLaws.{within_is}
use Rattle.study.proofs.NearestLaws.{nearest_only}

-- i is the first place of the least of w 0, w 1, .. w (m - 1), and x is that least
pub record FirstLeast (w : ℕ → ℕ) (m i x : ℕ) : Type 0 where
  pub inside : i < m
  pub is : x ≡ w i
  pub lowest : (k : ℕ) → k < m → x ≤ w k
  pub first : (k : ℕ) → k < i → x < w k

module _ {w : ℕ → ℕ} where
  -- of one number
  pub first_one : {x : ℕ} → x ≡ w 0 → FirstLeast w 1 0 x
  first_one e =
      record {
        inside = omega arith;
        is = e;
        lowest = λ k l. let z : k ≡ 0 = omega arith in rw (z, e) (omega arith);
        first = λ k l. absurd (omega arith);
      }

  module _ {m i x y : ℕ} (F : FirstLeast w m i x) (e : y ≡ w m) where
    -- one more that is less
    pub first_less : y < x → FirstLeast w (m + 1) m y
    first_less l =
        record {
          inside = omega arith;
          is = e;
          lowest = λ k h.
              ⊎_elim (λ a. omega (arith, F.lowest k a)) (λ a. let z : k ≡ m = omega arith in rw (z, e) (omega arith)) (split k m);
          first = λ k h. omega (arith, F.lowest k h);
        }

    -- one more that is not
    pub first_kept : x ≤ y → FirstLeast w (m + 1) i x
    first_kept l =
        record {
          inside = omega (arith, F.inside);
          is = F.is;
          lowest = λ k h. ⊎_elim (λ a. F.lowest k a) (λ a. let z : k ≡ m = omega arith in rw (z, ← e) l) (split k m);
          first = F.first;
        }

  first_done : {m n i x : ℕ} → FirstLeast w m i x → m ≡ n → FirstLeast w n i x
  first_done {i = i} {x = x} F e = subst (λ z. FirstLeast w z i x) e F

  -- of the same numbers
  first_same : {v : ℕ → ℕ} {m i x : ℕ} → ((k : ℕ) → k < m → w k ≡ v k) → FirstLeast w m i x → FirstLeast v m i x
  first_same {m = m} {i = i} {x = x} e F =
      record {
        inside = F.inside;
        is = F.is ∙ e i F.inside;
        lowest = λ k l. subst (λ z. x ≤ z) (e k l) (F.lowest k l);
        first = λ k l. subst (λ z. x < z) (e k (omega (arith, F.inside))) (F.first k l);
      }

-- of the distances from the first count centres of a table: block i + 1 is nearest
module _ (dist : ℕ → ℕ → ℕ) (table : List ℕ) {count t i x : ℕ} (long : count ≤ length table) (F : FirstLeast (λ m. dist (at table m) t) count i x) where
  abbrev cs : List ℕ
  cs = take count table

  -- block k is that of centre k - 1 of the table
  far : (k j : ℕ) → k ≡ j + 1 → j < count → dist (centre_of cs k) t ≡ dist (at table j) t
  unfolding centre_of
  far k j e l =
      let back : k - 1 ≡ j = omega arith in
      ap (λ z. dist (get_or cs z 0) t) back ∙ ap (λ c. dist c t) (get_or-take count table j 0 l)

  far_nearest : dist (centre_of cs (i + 1)) t ≡ x
  far_nearest = far (i + 1) i refl F.inside ∙ sym F.is

  near : IsNearest dist cs t (i + 1)
  near =
      let size = length-take-le count table long in
      record {
        low = omega arith;
        high = omega (arith, size, F.inside);
        no_nearer = λ k a b.
            let l : k - 1 < count = omega (arith, size) in
            omega (arith, far k (k - 1) (omega arith) l, F.lowest (k - 1) l, far_nearest);
        no_lower = λ k a b e.
            let l : k - 1 < count = omega (arith, size) in
            ⊎_elim
            (λ z. absurd (omega (arith, far k (k - 1) (omega arith) l, F.first (k - 1) (omega arith), far_nearest, e)))
            (λ z. z)
            (split k (i + 1));
      }

  nearest_found : (i + 1 ≡ nearest_block dist cs t) × (x ≡ nearest_distance dist cs t)
  nearest_found = let q = nearest_only dist cs t (i + 1) near in (q.0, sym far_nearest ∙ q.1)

-- the tides of a table lie at these distances
pub nearest_of : (d : List ℕ) {n : ℕ} {table : List ℕ} {count t m i x : ℕ} → TidesIn table count n → length table ≡ max_tides → t < n → m ≡ count
    → FirstLeast (λ k. cell d (at table k) t) m i x
    → (i + 1 ≡ nearest_block (within d n) (take count table) t) × (x ≡ nearest_distance (within d n) (take count table) t)
nearest_of d {n} {table} {t = t} A long h e F =
    nearest_found (within d n) table (omega (arith, A.few))
    (first_same (λ k l. sym (within_is d n (at table k) t (A.below k l) h)) (first_done F e))
