-- Laws of the shared and the remaining tides: where each of the second study's tides stands in the merged one. Assumes nothing.
use Prim.Native.Nat.{ℕ, ◌+◌, ◌<◌}
use native.Mathlib.Omega.{arith}
use mathlib.Core.Path.{◌≡◌, sym, ap, ◌∙◌, subst}
use mathlib.Core.Logic.{⊎_elim}
use mathlib.Core.Bool.{Bool, not}
use mathlib.Core.List.{List, head_d}
use lib.Dec.{T, eqb, eqb→eq, eqb_refl, not_T, T_not}
use lib.ListN.{length}
use Rattle.lists.specs.Lists.{◌among◌, iota, count_below, at, filter}
use Rattle.lists.proofs.Tests.{not_not, test, cond_yes, cond_no, every_at, not_every}
use Rattle.lists.proofs.Members.{filter_mem, mem_filter, first_mem, nonempty, range_mem, mem_range}
use Rattle.lists.proofs.Counting.{count_before, count_apart, Nth}
use Rattle.lists.proofs.Filtered.{filtered_count, filtered_nth}
use Rattle.study.specs.Study.{Study, size}
use Rattle.merge.specs.Merge.{Shared, unshared, rest, place}
use Rattle.merge.specs.Theorems.{Agree}

module _ (B : Study) (P : Shared) where
  abbrev js : List ℕ
  js = rest B P

  pub rest_count : length js ≡ count_below (size B) (unshared P)
  unfolding rest
  rest_count = filtered_count (unshared P) (size B)

  -- the remaining tide r is in no pair, with r such tides before it
  pub rest_nth : (r : ℕ) → r < length js → Nth (unshared P) (size B) r (at js r)
  unfolding rest
  rest_nth r l = filtered_nth (unshared P) (size B) r l

  pub rest_inside : (r : ℕ) → r < length js → at js r < size B
  rest_inside r l = (rest_nth r l).below

  -- and is known by that
  pub rest_is : (r j : ℕ) → Nth (unshared P) (size B) r j → (r < length js) × (at js r ≡ j)
  rest_is r j N =
      let l : r < length js = omega (arith, rest_count, count_before (unshared P) j (size B) N.pass N.below, N.rank) in
      let M = rest_nth r l in
      (l, count_apart (unshared P) (at js r) j M.pass N.pass (M.rank ∙ sym N.rank))

  -- a tide of the second study is shared, or it is one of the remaining
  pub by_share : (K : ℕ → Type 0) → ((q : ℕ) → q < P.pairs → K (P.second q)) → ((r : ℕ) → r < length js → K (at js r)) → (j : ℕ) → j < size B → K j
  unfolding unshared
  by_share K shared remains j l = ⊎_elim (λ t. remaining t) (λ t. paired t) (test (unshared P j))
    where
      remaining : T (unshared P j) → K j
      remaining t = let w = rest_is (count_below j (unshared P)) j (record { below = l; pass = t; rank = omega arith }) in subst K w.1 (remains _ w.0)

      paired : T (not (unshared P j)) → K j
      paired t =
          let w = not_every P.pairs (λ q. not (eqb (P.second q) j)) t in
          subst K (eqb→eq (P.second w.0) j (not_not (eqb (P.second w.0) j) w.2)) (shared w.0 w.1)

module _ (A B : Study) (P : Shared) (G : Agree A B P) where
  -- a shared tide is its partner
  pub place_shared : (q : ℕ) → q < P.pairs → place A P (P.second q) ≡ P.first q
  unfolding place unshared
  place_shared q l = cond_no (unshared P j) _ _ in_a_pair ∙ ap P.first (G.second_once found q inside l same)
    where
      j : ℕ
      j = P.second q

      names : ℕ → Bool
      names p = eqb (P.second p) j

      in_a_pair : T (not (unshared P j))
      in_a_pair = not_T (unshared P j) (λ t. T_not (names q) (every_at P.pairs (λ p. not (names p)) t q l) (eqb_refl j))

      found : ℕ
      found = head_d (filter names (iota 0 P.pairs)) 0

      is_found : (found among iota 0 P.pairs) × T (names found)
      is_found =
          let m = mem_filter names (iota 0 P.pairs) (mem_range 0 P.pairs q (omega arith) (omega arith)) (eqb_refl j) in
          filter_mem names (iota 0 P.pairs) (first_mem 0 (filter names (iota 0 P.pairs)) (nonempty (filter names (iota 0 P.pairs)) m))

      inside : found < P.pairs
      inside = let h = range_mem 0 P.pairs is_found.0 in omega arith

      same : P.second found ≡ P.second q
      same = eqb→eq (P.second found) j is_found.1

  -- the remaining tide r follows the first study's tides
  pub place_rest : (r : ℕ) → r < length (rest B P) → place A P (at (rest B P) r) ≡ size A + r
  unfolding place
  place_rest r l =
      let N = rest_nth B P r l in
      cond_yes (unshared P (at (rest B P) r)) _ _ N.pass ∙ ap (λ c. size A + c) N.rank

  -- different tides have different places
  pub place_apart : (i j : ℕ) → i < size B → j < size B → place A P i ≡ place A P j → i ≡ j
  place_apart i j a b =
      by_share B P (λ i. place A P i ≡ place A P j → i ≡ j)
      (λ p m. by_share B P (λ j. place A P (P.second p) ≡ place A P j → P.second p ≡ j) (λ q o. both_shared p q m o) (λ r l. one_shared p r m l) j b)
      (λ r l. by_share B P (λ j. place A P (at (rest B P) r) ≡ place A P j → at (rest B P) r ≡ j)
      (λ p m e. sym (one_shared p r m l (sym e))) (λ s k. none_shared r s l k) j b)
      i a
    where
      both_shared : (p q : ℕ) → p < P.pairs → q < P.pairs → place A P (P.second p) ≡ place A P (P.second q) → P.second p ≡ P.second q
      both_shared p q m o e = ap P.second (G.first_once p q m o (sym (place_shared p m) ∙ e ∙ place_shared q o))

      one_shared : (p r : ℕ) → p < P.pairs → r < length (rest B P) → place A P (P.second p) ≡ place A P (at (rest B P) r) → P.second p ≡ at (rest B P) r
      one_shared p r m l e = absurd (omega (arith, e, place_shared p m, place_rest r l, G.first_inside p m))

      none_shared : (r s : ℕ) → r < length (rest B P) → s < length (rest B P) → place A P (at (rest B P) r) ≡ place A P (at (rest B P) s)
          → at (rest B P) r ≡ at (rest B P) s
      none_shared r s l k e = let same : r ≡ s = omega (arith, e, place_rest r l, place_rest s k) in ap (at (rest B P)) same
