-- The numbers below a bound that pass a test, in order: number u of them is the one that passes with u others before it. Assumes nothing.
use Prim.Native.Nat.{ℕ, zero, suc, ◌+◌, ◌<◌}
use native.Mathlib.Nat.{not-suc-le-zero, le_of_suc-le-suc}
use native.Mathlib.Omega.{arith}
use mathlib.Core.Path.{◌≡◌, sym, ap, subst}
use mathlib.Core.Logic.{⊎_elim}
use mathlib.Core.Bool.{Bool}
use mathlib.Core.List.{List, ◌∷◌}
use lib.Dec.{T}
use lib.ListN.{length, get_or}
use Rattle.lists.specs.Lists.{iota, count_below, filter}
use Rattle.lists.proofs.Tests.{test, cond_yes, cond_no}
use Rattle.lists.proofs.Counts.{count_zero, count_hit, count_miss}
use Rattle.lists.proofs.Counting.{Nth}

module _ (q : ℕ → Bool) where
  -- xs lists, in order, the numbers below e that pass, without the first c of them
  record Listed (c e : ℕ) (xs : List ℕ) : Type 0 where
    long : c + length xs ≡ count_below e q
    nth : (u : ℕ) → u < length xs → Nth q e (c + u) (get_or xs u 0)

  listed_more : (k e : ℕ) (xs : List ℕ) → k < e → T (q k) → Listed (count_below (suc k) q) e xs → Listed (count_below k q) e (k ∷ xs)
  listed_more k e xs l t I = record { long = omega (arith, I.long, count_hit k q t); nth = place }
    where
      place : (u : ℕ) → u < suc (length xs) → Nth q e (count_below k q + u) (get_or (k ∷ xs) u 0)
      place zero m = record { below = l; pass = t; rank = omega arith }
      place (suc u) m = subst (λ i. Nth q e i (get_or xs u 0)) (omega (arith, count_hit k q t)) (I.nth u (le_of_suc-le-suc m))

  listed : (k n e : ℕ) → k + n ≡ e → Listed (count_below k q) e (filter q (iota k n))
  listed k zero e h =
      let g : k ≡ e = omega arith in record { long = omega (arith, ap (λ z. count_below z q) g); nth = λ u l. absurd (not-suc-le-zero l) }
  listed k (suc n) e h =
      let xs = filter q (iota (suc k) n) in
      let I = listed (suc k) n e (omega arith) in
      ⊎_elim (λ t. subst (Listed (count_below k q) e) (sym (cond_yes (q k) (k ∷ xs) xs t)) (listed_more k e xs (omega arith) t I))
      (λ t. subst (Listed (count_below k q) e) (sym (cond_no (q k) (k ∷ xs) xs t)) (subst (λ c. Listed c e xs) (count_miss k q t) I))
      (test (q k))

  listed_all : (n : ℕ) → Listed 0 n (filter q (iota 0 n))
  listed_all n = subst (λ c. Listed c n (filter q (iota 0 n))) (count_zero q) (listed 0 n n (omega arith))

  pub filtered_count : (n : ℕ) → length (filter q (iota 0 n)) ≡ count_below n q
  filtered_count n = omega (arith, (listed_all n).long)

  pub filtered_nth : (n u : ℕ) → u < length (filter q (iota 0 n)) → Nth q n u (get_or (filter q (iota 0 n)) u 0)
  filtered_nth n u l = subst (λ i. Nth q n i (get_or (filter q (iota 0 n)) u 0)) (omega arith) ((listed_all n).nth u l)
