-- What it says that the pairs agree: reasons 17 and 16 in plain words. Assumes nothing.
use Prim.Native.Nat.{ℕ, ◌-◌, ◌≤◌, ◌<◌}
use native.Mathlib.Omega.{arith}
use mathlib.Core.Path.{◌≡◌, refl, sym, ap, ◌∙◌, subst}
use mathlib.Core.Logic.{⊎_elim, ◌↔◌}
use mathlib.Core.Bool.{Bool, not}
use mathlib.Core.List.{List, [], ◌∷◌}
use lib.Dec.{T, eqb, eqb→eq, T_not, not_T}
use Rattle.lists.specs.Lists.{between, every, at}
use Rattle.lists.proofs.Tests.{and_T, T-left, T-right, split, between-T, each_at, each_of, every_at, every_of, eq→eqb}
use Rattle.study.specs.Study.{Study, size, tide, distance}
use Rattle.study.proofs.StudyLaws.{distance_both_ways, distance_itself}
use Rattle.merge.specs.Merge.{Shared, shared, consistent, agreeing, agree}
use Rattle.merge.specs.Theorems.{Agree}

module _ (A B : Study) (firsts seconds : List ℕ) where
  abbrev P : Shared
  P = shared firsts seconds

  -- pair q names other tides than pair p, as far from those in the one study as in the other
  record Consistent (q p : ℕ) : Type 0 where
    first_other : at firsts p ≡ at firsts q → ⊥
    second_other : at seconds p ≡ at seconds q → ⊥
    distances : distance A (P.first p) (P.first q) ≡ distance B (P.second p) (P.second q)

  consistent_at : (q p : ℕ) → T (consistent A B firsts seconds q p) → Consistent q p
  unfolding consistent
  consistent_at q p t =
      let e = each_at tests t in
      record {
        first_other = λ s. T_not (eqb (at firsts p) (at firsts q)) e.0 (eq→eqb (at firsts p) (at firsts q) s);
        second_other = λ s. T_not (eqb (at seconds p) (at seconds q)) e.1.0 (eq→eqb (at seconds p) (at seconds q) s);
        distances = eqb→eq (distance A (P.first p) (P.first q)) (distance B (P.second p) (P.second q)) e.1.1.0;
      }
    where
      tests : List Bool
      tests =
          not (eqb (at firsts p) (at firsts q))
          ∷ not (eqb (at seconds p) (at seconds q))
          ∷ eqb (distance A (P.first p) (P.first q)) (distance B (P.second p) (P.second q))
          ∷ []

  -- what is known of pair q where it agrees
  pub record PairAgrees (q : ℕ) : Type 0 where
    pub first_low : 1 ≤ at firsts q
    pub first_high : at firsts q ≤ size A
    pub second_low : 1 ≤ at seconds q
    pub second_high : at seconds q ≤ size B
    pub setting : (tide A (at firsts q - 1)).setting ≡ (tide B (at seconds q - 1)).setting
    pub earlier : (p : ℕ) → p < q → T (consistent A B firsts seconds q p)

  pub pair_agrees : (q : ℕ) → T (agreeing A B firsts seconds q) → PairAgrees q
  unfolding agreeing
  pair_agrees q t =
      let e = each_at tests t in
      let f = (between-T 1 (size A) (at firsts q)).0 e.0 in
      let g = (between-T 1 (size B) (at seconds q)).0 e.1.0 in
      record {
        first_low = f.0;
        first_high = f.1;
        second_low = g.0;
        second_high = g.1;
        setting = eqb→eq (tide A (P.first q)).setting (tide B (P.second q)).setting e.1.1.0;
        earlier = every_at q (consistent A B firsts seconds q) e.1.1.1.0;
      }
    where
      tests : List Bool
      tests =
          between 1 (size A) (at firsts q)
          ∷ between 1 (size B) (at seconds q)
          ∷ eqb (tide A (P.first q)).setting (tide B (P.second q)).setting
          ∷ every q (consistent A B firsts seconds q)
          ∷ []

  module _ (some : 0 < P.pairs) (t : T (agree A B firsts seconds)) where
    pair : (q : ℕ) → q < P.pairs → PairAgrees q
    unfolding agree
    pair q l =
        pair_agrees q
        (every_at P.pairs (agreeing A B firsts seconds) (T-right (eqb A.k B.k) (every P.pairs (agreeing A B firsts seconds)) t) q l)

    earlier : (p q : ℕ) → p < q → q < P.pairs → Consistent q p
    earlier p q h l = consistent_at q p ((pair q l).earlier p h)

    -- of two pairs, what is told of the earlier one with the later
    by_order : (K : ℕ → ℕ → Type 0) → ((p q : ℕ) → p < q → q < P.pairs → K p q) → ((p q : ℕ) → p < q → q < P.pairs → K q p)
        → ((q : ℕ) → q < P.pairs → K q q) → (p q : ℕ) → p < P.pairs → q < P.pairs → K p q
    by_order K up down same p q a b =
        ⊎_elim (λ s. up p q s b)
        (λ s. ⊎_elim (λ r. down q p r a) (λ r. let e : p ≡ q = omega arith in subst (λ z. K z q) (sym e) (same q b)) (split q p)) (split p q)

    distances : (p q : ℕ) → p < P.pairs → q < P.pairs → distance A (P.first p) (P.first q) ≡ distance B (P.second p) (P.second q)
    distances =
        by_order (λ p q. distance A (P.first p) (P.first q) ≡ distance B (P.second p) (P.second q))
        (λ p q h l. (earlier p q h l).distances)
        (λ p q h l. distance_both_ways A (P.first q) (P.first p) ∙ (earlier p q h l).distances ∙ distance_both_ways B (P.second p) (P.second q))
        (λ q l. distance_itself A (P.first q) ∙ sym (distance_itself B (P.second q)))

    pub agree_says : Agree A B P
    unfolding agree
    agree_says =
        record {
          named = some;
          k = eqb→eq A.k B.k (T-left (eqb A.k B.k) (every P.pairs (agreeing A B firsts seconds)) t);
          first_inside = λ q l. let h = pair q l in omega (arith, h.first_low, h.first_high);
          second_inside = λ q l. let h = pair q l in omega (arith, h.second_low, h.second_high);
          first_once = λ p q a b.
              by_order (λ p q. P.first p ≡ P.first q → p ≡ q)
              (λ p q h l e. absurd ((earlier p q h l).first_other (omega (arith, (pair p (omega arith)).first_low, (pair q l).first_low))))
              (λ p q h l e. absurd ((earlier p q h l).first_other (omega (arith, (pair p (omega arith)).first_low, (pair q l).first_low))))
              (λ q l e. refl) p q a b;
          second_once = λ p q a b.
              by_order (λ p q. P.second p ≡ P.second q → p ≡ q)
              (λ p q h l e. absurd ((earlier p q h l).second_other (omega (arith, (pair p (omega arith)).second_low, (pair q l).second_low))))
              (λ p q h l e. absurd ((earlier p q h l).second_other (omega (arith, (pair p (omega arith)).second_low, (pair q l).second_low))))
              (λ q l e. refl) p q a b;
          setting = λ q l. (pair q l).setting;
          distances = distances;
        }

  -- ---- the other way round: where all is so, the test passes

  module _ (low : (q : ℕ) → q < P.pairs → (1 ≤ at firsts q) × (1 ≤ at seconds q)) (G : Agree A B P) where
    consistent_of : (p q : ℕ) → p < q → q < P.pairs → T (consistent A B firsts seconds q p)
    unfolding consistent
    consistent_of p q h l =
        each_of
        (not (eqb (at firsts p) (at firsts q))
        ∷ not (eqb (at seconds p) (at seconds q))
        ∷ eqb (distance A (P.first p) (P.first q)) (distance B (P.second p) (P.second q))
        ∷ []) (
          not_T (eqb (at firsts p) (at firsts q)) (λ e. apart (G.first_once p q a l (ap (λ z. z - 1) (eqb→eq (at firsts p) (at firsts q) e)))),
          (
            not_T (eqb (at seconds p) (at seconds q)) (λ e. apart (G.second_once p q a l (ap (λ z. z - 1) (eqb→eq (at seconds p) (at seconds q) e)))),
            (
              eq→eqb (distance A (P.first p) (P.first q)) (distance B (P.second p) (P.second q)) (G.distances p q a l),
              tt,
            ),
          ),
        )
      where
        a : p < P.pairs
        a = omega arith

        apart : p ≡ q → ⊥
        apart e = omega arith

    agreeing_of : (q : ℕ) → q < P.pairs → T (agreeing A B firsts seconds q)
    unfolding agreeing
    agreeing_of q l =
        each_of
        (between 1 (size A) (at firsts q)
        ∷ between 1 (size B) (at seconds q)
        ∷ eqb (tide A (P.first q)).setting (tide B (P.second q)).setting
        ∷ every q (consistent A B firsts seconds q)
        ∷ []) (
          (between-T 1 (size A) (at firsts q)).1 ((low q l).0, omega (arith, (low q l).0, G.first_inside q l)),
          (
            (between-T 1 (size B) (at seconds q)).1 ((low q l).1, omega (arith, (low q l).1, G.second_inside q l)),
            (
              eq→eqb (tide A (P.first q)).setting (tide B (P.second q)).setting (G.setting q l),
              (every_of q (consistent A B firsts seconds q) (λ p h. consistent_of p q h l), tt),
            ),
          ),
        )

    agree_of : T (agree A B firsts seconds)
    unfolding agree
    agree_of =
        and_T (eqb A.k B.k) (every P.pairs (agreeing A B firsts seconds)) (eq→eqb A.k B.k G.k)
        (every_of P.pairs (agreeing A B firsts seconds) agreeing_of)

  pub agree_exactly : 0 < P.pairs
      → T (agree A B firsts seconds) ↔ (((q : ℕ) → q < P.pairs → (1 ≤ at firsts q) × (1 ≤ at seconds q)) × Agree A B P)
  agree_exactly some = (
    λ t. (λ q l. ((pair some t q l).first_low, (pair some t q l).second_low), agree_says some t),
    λ h. agree_of h.0 h.1,
  )
