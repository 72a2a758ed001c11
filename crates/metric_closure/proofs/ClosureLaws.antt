-- The closure of a table: the theorem over every table of distances. Assumes nothing.
use Prim.Native.Nat.{ℕ, zero, suc, ◌+◌, ◌*◌, ◌≤◌, ◌<◌, min}
use native.Mathlib.Omega.{arith}
use mathlib.Core.Path.{◌≡◌, refl, sym, ap, ap₂, ◌∙◌, subst}
use mathlib.Core.Logic.{⊎_elim}
use mathlib.Core.Bool.{Bool}
use mathlib.Core.List.{List, [], ◌∷◌, ◌++◌}
use mathlib.Core.List.Memᴰ
use mathlib.Core.List.Memᴰ.{head as here}
use mathlib.Core.List.Memᴰ.{tail as there}
use lib.Dec.{ltb, ltb→lt, nltb→le, not_T}
use Rattle.lists.specs.Lists.{◌among◌, bit, count_below}
use Rattle.lists.proofs.Tests.{T_false, split}
use Rattle.lists.proofs.Counts.{sum_suc, sum_le, sum_same, count_same, count_most}
use Rattle.lists.proofs.Counting.{sum_none, sum_const, sum_front, count_none}
use Rattle.metric_closure.specs.Closure.{chain_sum, by_way_of, closure, nearer_pairs, lowered_pairs}
use Rattle.metric_closure.specs.Theorems.{Dissimilarity, TriangleInequality, Below, Chain, ForTable}

-- ---- one more tide

module _ (m : ℕ) (dist : ℕ → ℕ → ℕ) (i j : ℕ) where
  pub by_is : by_way_of m dist i j ≡ min (dist i j) (dist i m + dist m j)
  unfolding by_way_of
  by_is = refl

  pub by_below : by_way_of m dist i j ≤ dist i j
  by_below = omega (arith, by_is)

module _ (dist : ℕ → ℕ → ℕ) where
  pub closure_none : (i j : ℕ) → closure 0 dist i j ≡ dist i j
  unfolding closure
  closure_none i j = refl

  closure_more : (m i j : ℕ) → closure (suc m) dist i j ≡ by_way_of m (closure m dist) i j
  unfolding closure
  closure_more m i j = refl

  pub closure_min : (m i j : ℕ) → closure (suc m) dist i j ≡ min (closure m dist i j) (closure m dist i m + closure m dist m j)
  closure_min m i j = closure_more m i j ∙ by_is m (closure m dist) i j

  pub closure_below : (m i j : ℕ) → closure m dist i j ≤ dist i j
  closure_below zero i j = omega (arith, closure_none i j)
  closure_below (suc m) i j = omega (arith, closure_min m i j, closure_below m i j)

  -- the triangle inequality by way of each tide that is allowed between
  closure_rule : (m i k j : ℕ) → k < m → closure m dist i j ≤ closure m dist i k + closure m dist k j
  closure_rule zero i k j l = absurd (omega arith)
  closure_rule (suc m) i k j l =
      let at_ij = closure_min m i j in
      let at_ik = closure_min m i k in
      let at_kj = closure_min m k j in
      ⊎_elim (λ h. omega (arith, closure_rule m i k j h, closure_rule m i k m h, closure_rule m m k j h))
      (λ h. let e : m ≡ k = omega arith in
      subst (λ z. closure (suc m) dist i j ≤ closure (suc m) dist i z + closure (suc m) dist z j) e
      (omega (arith, closure_min m i m, closure_min m m j)))
      (split k m)

  -- ---- chains

  closure_least : (m i j : ℕ) (ts : List ℕ) → ((t : ℕ) → t among ts → t < m) → closure m dist i j ≤ chain_sum dist i ts j
  closure_least m i j [] h = closure_below m i j
  closure_least m i j (t ∷ ts) h =
      omega (arith, closure_rule m i t j (h t (here refl)), closure_below m i t, closure_least m t j ts (λ u k. h u (there k)))

  -- a chain to t, and one from there
  joined : (i t j : ℕ) (ts us : List ℕ) → chain_sum dist i (ts ++ (t ∷ us)) j ≡ chain_sum dist i ts t + chain_sum dist t us j
  joined i t j [] us = refl
  joined i t j (s ∷ ts) us = omega (arith, joined s t j ts us)

  -- a chain below m is one below m + 1, and so are two that meet at m
  kept : {m i j s r : ℕ} → Chain m dist i j s → s ≡ r → Chain (suc m) dist i j r
  kept C e = record { between = C.between; inside = λ t k. omega (arith, C.inside t k); sums = C.sums ∙ e }

  met : {m i j s u r : ℕ} → Chain m dist i m s → Chain m dist m j u → s + u ≡ r → Chain (suc m) dist i j r
  met {m} {i} {j} C D e =
      record {
        between = C.between ++ (m ∷ D.between);
        inside = λ t k. ⊎_elim (λ h. omega (arith, C.inside t h))
            (λ h. ⊎_elim (λ q. omega arith) (λ q. omega (arith, D.inside t q)) (Memᴰ.cases_cons h)) (Memᴰ.append_cases C.between k);
        sums = joined i m j C.between D.between ∙ ap₂ (λ (a b : ℕ). a + b) C.sums D.sums ∙ e;
      }

  closure_attained : (m i j : ℕ) → Chain m dist i j (closure m dist i j)
  closure_attained zero i j = record { between = []; inside = λ t k. absurd (Memᴰ.not-nil k); sums = sym (closure_none i j) }
  closure_attained (suc m) i j =
      ⊎_elim (λ h. met (closure_attained m i m) (closure_attained m m j) (omega (arith, closure_min m i j)))
      (λ h. kept (closure_attained m i j) (omega (arith, closure_min m i j)))
      (split (closure m dist i m + closure m dist m j) (closure m dist i j))

-- ---- what obeys the triangle inequality and is nowhere above the table

module _ (n : ℕ) (dist other : ℕ → ℕ → ℕ) (R : TriangleInequality n other) (B : Below n other dist) where
  closure_above : (m i j : ℕ) → m ≤ n → i < n → j < n → other i j ≤ closure m dist i j
  closure_above zero i j h a b = omega (arith, closure_none dist i j, B.below i j a b)
  closure_above (suc m) i j h a b =
      omega (
        arith,
        closure_min dist m i j,
        R.triangle i m j a h b,
        closure_above m i j (omega arith) a b,
        closure_above m i m (omega arith) a h,
        closure_above m m j (omega arith) h b,
      )

  closure_greatest : Below n other (closure n dist)
  closure_greatest = record { below = λ i j a b. closure_above n i j (omega arith) a b }

closure_own : (n : ℕ) (dist : ℕ → ℕ → ℕ) → TriangleInequality n dist → (i j : ℕ) → i < n → j < n → closure n dist i j ≡ dist i j
closure_own n dist R i j a b =
    omega (arith, closure_below dist n i j, (closure_greatest n dist dist R (record { below = λ i j a b. omega arith })).below i j a b)

-- ---- tables that agree

module _ (n : ℕ) (f g : ℕ → ℕ → ℕ) (same : (i j : ℕ) → i < n → j < n → f i j ≡ g i j) where
  closure_agrees : (m i j : ℕ) → m ≤ n → i < n → j < n → closure m f i j ≡ closure m g i j
  closure_agrees zero i j h a b = closure_none f i j ∙ same i j a b ∙ sym (closure_none g i j)
  closure_agrees (suc m) i j h a b =
      omega (
        arith,
        closure_min f m i j,
        closure_min g m i j,
        closure_agrees m i j (omega arith) a b,
        closure_agrees m i m (omega arith) a h,
        closure_agrees m m j (omega arith) h b,
      )

  pub closure_same : (i j : ℕ) → i < n → j < n → closure n f i j ≡ closure n g i j
  closure_same i j a b = closure_agrees n i j (omega arith) a b

  pub dissimilarity_same : Dissimilarity n g → Dissimilarity n f
  dissimilarity_same S =
      record {
        both_ways = λ i j a b. same i j a b ∙ S.both_ways i j a b ∙ sym (same j i b a);
        itself = λ i a. same i i a a ∙ S.itself i a;
      }

  pub triangle_same : TriangleInequality n g → TriangleInequality n f
  triangle_same R = record { triangle = λ t u v a b c. omega (arith, R.triangle t u v a b c, same t v a c, same t u a b, same u v b c) }

-- the same distances have the same pairs
pub nearer_same : (n : ℕ) (new old new' old' : ℕ → ℕ → ℕ) → ((i j : ℕ) → i < n → j < n → new i j ≡ new' i j)
    → ((i j : ℕ) → i < n → j < n → old i j ≡ old' i j) → nearer_pairs n new old ≡ nearer_pairs n new' old'
unfolding nearer_pairs
nearer_same n new old new' old' f h =
    sum_same n (λ i. count_below i (λ j. ltb (new i j) (old i j))) (λ i. count_below i (λ j. ltb (new' i j) (old' i j)))
    (λ i a. count_same i (λ j. ltb (new i j) (old i j)) (λ j. ltb (new' i j) (old' i j))
    (λ j b. ap₂ (λ (x y : ℕ). ltb x y) (f i j a (omega arith)) (h i j a (omega arith))))

pub lowered_same : (n : ℕ) (f g : ℕ → ℕ → ℕ) → ((i j : ℕ) → i < n → j < n → f i j ≡ g i j) → lowered_pairs n f ≡ lowered_pairs n g
unfolding lowered_pairs
lowered_same n f g same = nearer_same n (closure n f) f (closure n g) g (closure_same n f g same) same

-- ---- symmetric tables

module _ (n : ℕ) (dist : ℕ → ℕ → ℕ) (S : Dissimilarity n dist) where
  closure_both_ways : (m i j : ℕ) → m ≤ n → i < n → j < n → closure m dist i j ≡ closure m dist j i
  closure_both_ways zero i j h a b = closure_none dist i j ∙ S.both_ways i j a b ∙ sym (closure_none dist j i)
  closure_both_ways (suc m) i j h a b =
      omega (
        arith,
        closure_min dist m i j,
        closure_min dist m j i,
        closure_both_ways m i j (omega arith) a b,
        closure_both_ways m i m (omega arith) a h,
        closure_both_ways m m j (omega arith) h b,
      )

  closure_symmetric : Dissimilarity n (closure n dist)
  closure_symmetric =
      record {
        both_ways = λ i j a b. closure_both_ways n i j (omega arith) a b;
        itself = λ i a. omega (arith, closure_below dist n i i, S.itself i a);
      }

  -- ---- the pairs that are lowered

  abbrev lowers : ℕ → ℕ → Bool
  lowers i j = ltb (closure n dist i j) (dist i j)

  none_lowered : TriangleInequality n dist → lowered_pairs n dist ≡ 0
  unfolding lowered_pairs nearer_pairs count_below
  none_lowered R =
      sum_none n (λ i. count_below i (lowers i)) (λ i a. sum_none i (λ j. bit (lowers i j)) (λ j b. unlowered i j a (omega arith)))
    where
      unlowered : (i j : ℕ) → i < n → j < n → bit (lowers i j) ≡ 0
      unlowered i j a b =
          ap bit (T_false (lowers i j) (not_T (lowers i j) (λ t. omega (arith, ltb→lt (closure n dist i j) (dist i j) t, closure_own n dist R i j a b))))

  module _ (none : lowered_pairs n dist ≡ 0) where
    -- each distance of two tides is that of the closure
    earlier_own : (i j : ℕ) → j < i → i < n → closure n dist i j ≡ dist i j
    unfolding lowered_pairs nearer_pairs
    earlier_own i j b a =
        let pairs : ℕ → ℕ = λ i. count_below i (lowers i) in
        let row : count_below i (lowers i) ≡ 0 = omega (arith, sum_suc i pairs, sum_front pairs (suc i) n a) in
        omega (arith, closure_below dist n i j, nltb→le (closure n dist i j) (dist i j) (count_none (lowers i) i row j b))

    unlowered_own : (i j : ℕ) → i < n → j < n → closure n dist i j ≡ dist i j
    unlowered_own i j a b =
        ⊎_elim (λ h. omega (arith, earlier_own j i h b, closure_both_ways n i j (omega arith) a b, S.both_ways i j a b))
        (λ h. ⊎_elim (λ k. earlier_own i j k a)
        (λ k. let q : i ≡ j = omega arith in
        subst (λ z. closure n dist i z ≡ dist i z) q (omega (arith, closure_below dist n i i, S.itself i a)))
        (split j i))
        (split i j)

    all_obeyed : TriangleInequality n dist
    all_obeyed =
        triangle_same n dist (closure n dist) (λ i j a b. sym (unlowered_own i j a b))
        (record { triangle = λ t u v a b c. closure_rule dist n t u v b })

  pub table_laws : ForTable n dist
  table_laws =
      record {
        least = λ i j s C. omega (arith, closure_least dist n i j C.between C.inside, C.sums);
        attained = λ i j. closure_attained dist n i j;
        obeys = record { triangle = λ t u v a b c. closure_rule dist n t u v b };
        symmetric = closure_symmetric;
        lower = record { below = λ i j a b. closure_below dist n i j };
        greatest = λ other R B. closure_greatest n dist other R B;
        own = λ R i j a b. closure_own n dist R i j a b;
        none_lowered = (all_obeyed, none_lowered);
      }

-- no more pairs are lowered than the table has places
pub lowered_few : (n : ℕ) (dist : ℕ → ℕ → ℕ) → lowered_pairs n dist ≤ n * n
unfolding lowered_pairs nearer_pairs
lowered_few n dist =
    let lower : ℕ → ℕ → Bool = λ i j. ltb (closure n dist i j) (dist i j) in
    omega (arith, sum_le n (λ i. count_below i (lower i)) (λ i. n) (λ i h. omega (arith, count_most i (lower i))), sum_const n n)
