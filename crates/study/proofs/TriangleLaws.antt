-- The triangle rule by ordered triples: it is enough that each tide obeys it with every pair before it. Assumes nothing.
use Prim.Native.Nat.{ℕ, suc, ◌+◌, ◌-◌, ◌≤◌, ◌<◌}
use native.Mathlib.Omega.{arith}
use mathlib.Core.Path.{◌≡◌, subst}
use mathlib.Core.Logic.{◌⊎◌, inl, inr, ⊎_elim, ◌↔◌}
use mathlib.Core.Bool.{Bool, not}
use mathlib.Core.List.{List, [], ◌∷◌, map}
use lib.Dec.{T, leb, leb→le, le→leb, T_not}
use Rattle.lists.specs.Lists.{iota, filter, is_empty}
use Rattle.lists.proofs.Tests.{test, split, each_at, each_of}
use Rattle.lists.proofs.Members.{filter_mem, mem_filter, map_mem, mem_map, flat_map_mem, mem_flat_map, nonempty, empty_of, range_mem, mem_range}
use Rattle.study.specs.Calls.{triangle, Pair, violations}
use Rattle.study.specs.Triangle.{Triangle}

module _ (a b c : ℕ) where
  abbrev tests : List Bool
  tests = leb a (b + c) ∷ leb b (a + c) ∷ leb c (a + b) ∷ []

  pub triangle-T : T (triangle a b c) ↔ Triangle a b c
  unfolding triangle
  triangle-T = (
    λ t. let e = each_at tests t in record { first = leb→le _ _ e.0; second = leb→le _ _ e.1.0; third = leb→le _ _ e.1.1.0 },
    λ r. each_of tests (le→leb a (b + c) r.first, (le→leb b (a + c) r.second, (le→leb c (a + b) r.third, tt))),
  )

-- ---- no pair breaks the rule exactly when each pair obeys it

module _ (dist : ℕ → ℕ → ℕ) (n : ℕ) (new : ℕ → ℕ) where
  abbrev broken? : ℕ → ℕ → Bool
  broken? i j = not (triangle (dist i j) (new i) (new j))

  abbrev rest : ℕ → List ℕ
  rest i = iota (suc i) (n - suc i)

  abbrev pairs : ℕ → List Pair
  pairs i = map (λ j. record { lower = i; upper = j }) (filter (broken? i) (rest i))

  pub obeyed : T (is_empty (violations dist n new)) → (i j : ℕ) → i < j → j < n → Triangle (dist i j) (new i) (new j)
  unfolding violations
  obeyed h i j a b =
      ⊎_elim (λ t. (triangle-T (dist i j) (new i) (new j)).0 t)
      (λ t. absurd (T_not (is_empty (violations dist n new))
      (nonempty (violations dist n new)
      (mem_flat_map pairs (iota 0 n) (mem_range 0 n i (omega arith) (omega arith))
      (mem_map (λ j. record { lower = i; upper = j }) (filter (broken? i) (rest i))
      (mem_filter (broken? i) (rest i) (mem_range (suc i) (n - suc i) j (omega arith) (omega arith)) t)))) h))
      (test (triangle (dist i j) (new i) (new j)))

  pub obeyed_of : ((i j : ℕ) → i < j → j < n → Triangle (dist i j) (new i) (new j)) → T (is_empty (violations dist n new))
  unfolding violations
  obeyed_of f =
      empty_of (violations dist n new) (λ p m.
      let r = flat_map_mem pairs (iota 0 n) m in
      let q = map_mem (λ j. record { lower = r.0; upper = j }) (filter (broken? r.0) (rest r.0)) r.2 in
      let k = filter_mem (broken? r.0) (rest r.0) q.1 in
      let b = range_mem (suc r.0) (n - suc r.0) k.0 in
      T_not (triangle (dist r.0 q.0) (new r.0) (new q.0)) k.1
      ((triangle-T (dist r.0 q.0) (new r.0) (new q.0)).1 (f r.0 q.0 (omega (arith, b.0)) (omega (arith, b.0, b.1)))))

-- ---- all triples

-- the triple of any three tides obeys the rule where the distances do
pub triangle_of : (dist : ℕ → ℕ → ℕ) → ((t u : ℕ) → dist t u ≡ dist u t) → (n : ℕ)
    → ((t u v : ℕ) → t < n → u < n → v < n → dist t v ≤ dist t u + dist u v)
    → (i j l : ℕ) → i < n → j < n → l < n → Triangle (dist i j) (dist i l) (dist j l)
triangle_of dist sm n O i j l a b c =
    record {
      first = omega (arith, O i l j a c b, sm l j);
      second = omega (arith, O i j l a b c);
      third = omega (arith, O j i l b a c, sm j i);
    }

-- where the rule holds for i < j < l it holds for any three
module _ (dist : ℕ → ℕ → ℕ) (sm : (t u : ℕ) → dist t u ≡ dist u t) (itself : (t : ℕ) → dist t t ≡ 0) (n : ℕ)
    (O : (i j l : ℕ) → i < j → j < l → l < n → Triangle (dist i j) (dist i l) (dist j l)) where
  -- two of them may be one
  below : (i j l : ℕ) → i ≤ j → j ≤ l → l < n → Triangle (dist i j) (dist i l) (dist j l)
  below i j l a b c =
      ⊎_elim
      (λ p. ⊎_elim (λ q. O i j l p q c)
      (λ q. let e : l ≡ j = omega arith in
      subst (λ z. Triangle (dist i z) (dist i l) (dist z l)) e (record { first = omega arith; second = omega arith; third = omega (arith, itself l) }))
      (split j l))
      (λ p. let e : i ≡ j = omega arith in
      subst (λ z. Triangle (dist i z) (dist i l) (dist z l)) e (record { first = omega (arith, itself i); second = omega arith; third = omega arith }))
      (split i j)

  order : (a b : ℕ) → (a ≤ b) ⊎ (b ≤ a)
  order a b = ⊎_elim (λ l. inl (omega arith)) (λ l. inr l) (split a b)

  pub ordered_triangle : (t u v : ℕ) → t < n → u < n → v < n → dist t v ≤ dist t u + dist u v
  ordered_triangle t u v a b c = by (order t u) (order u v) (order t v)
    where
      by : (t ≤ u) ⊎ (u ≤ t) → (u ≤ v) ⊎ (v ≤ u) → (t ≤ v) ⊎ (v ≤ t) → dist t v ≤ dist t u + dist u v
      by (inl p) (inl q) r = omega (arith, (below t u v p q c).second)
      by (inl p) (inr q) (inl r) = omega (arith, (below t v u r q b).first, sm u v)
      by (inl p) (inr q) (inr r) = omega (arith, (below v t u r p b).first, sm v t, sm u v)
      by (inr p) (inl q) (inl r) = omega (arith, (below u t v p r c).third, sm t u)
      by (inr p) (inl q) (inr r) = omega (arith, (below u v t q r a).third, sm t u, sm v t)
      by (inr p) (inr q) r = omega (arith, (below v u t q p a).second, sm v t, sm u v, sm t u)
