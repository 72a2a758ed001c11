-- Laws of Study.antt: a study that obeys the triangle rule poses a lawful problem, in any order of its tides. Assumes nothing.
use Prim.Native.Nat.{ℕ, suc, ◌≤◌, ◌<◌}
use native.Mathlib.Nat.{le_trans, le_refl}
use native.Mathlib.Omega.{arith}
use mathlib.Core.Path.{◌≡◌, refl, sym, ap, ◌∙◌, subst}
use mathlib.Core.Logic.{◌↔◌}
use mathlib.Core.Bool.{Bool, true, false, cond, ◌&&◌, not}
use mathlib.Core.List.{List, [], ◌∷◌}
use lib.Dec.{T, leb, ltb, eqb, leb→le, le→leb, ltb→lt, nltb→le, eqb→eq}
use lib.Arith.{le→nltb}
use lib.ListN.{length, get_or}
use Rattle.lists.specs.Lists.{between, every, sum_below, count_below}
use Rattle.lists.proofs.Tests.{and_T, T-left, T-right, between-T, each_at, each_of, cond_no, every_at, every_of, eq→eqb}
use Rattle.lists.proofs.Counts.{count_into, count_all}
use Rattle.study.specs.declared.Minima.{Minima}
use Rattle.study.specs.Study.{Study, size, tide, distance, meets, sufficient, problem, valid_minima, TriangleInequality, Renumbered}
use Rattle.study.specs.Theorems.{Symmetric, Lawful, Reordered, Ample}
use Rattle.study.specs.Minima.{Meets, MinimaFit}

-- ---- what it says that a set of tides meets the minima

module _ (M : Minima) (n : ℕ) (setting : ℕ → ℕ) (p : ℕ → Bool) where
  abbrev whole? : Bool
  whole? = leb M.b0 (count_below n p)

  abbrev each? : ℕ → Bool
  each? j = leb (get_or M.b j 0) (count_below n (λ t. p t && eqb (setting t) (suc j)))

  pub meets-T : T (meets M n setting p) ↔ Meets M n setting p
  unfolding meets
  meets-T = (
    λ h. record {
      whole = leb→le M.b0 (count_below n p) (T-left whole? (every 8 each?) h);
      each = λ j l. leb→le (get_or M.b j 0) (count_below n (λ t. p t && eqb (setting t) (suc j))) (every_at 8 each? (T-right whole? (every 8 each?) h) j l);
    },
    λ e. and_T whole? (every 8 each?) (le→leb M.b0 (count_below n p) e.whole)
        (every_of 8 each? (λ j l. le→leb (get_or M.b j 0) (count_below n (λ t. p t && eqb (setting t) (suc j))) (e.each j l))),
  )

-- more tides of each setting, counted in another order or not, keep a set sufficient
pub meets_along : (M : Minima) (m n : ℕ) (s r : ℕ → ℕ) (p q : ℕ → Bool) (to : ℕ → ℕ)
    → ((t : ℕ) → t < m → T (p t) → to t < n) → ((t : ℕ) → t < m → T (p t) → T (q (to t))) → ((t : ℕ) → t < m → s t ≡ r (to t))
    → ((t u : ℕ) → t < m → u < m → to t ≡ to u → t ≡ u) → T (meets M m s p) → T (meets M n r q)
meets_along M m n s r p q to into pass same apart h =
    let e = (meets-T M m s p).0 h in
    (meets-T M n r q).1
    (record {
      whole = le_trans e.whole (count_into m n p q to into pass (λ t u l k a b. apart t u l k));
      each = λ j l. le_trans (e.each j l)
          (count_into m n (λ t. p t && eqb (s t) (suc j)) (λ t. q t && eqb (r t) (suc j)) to
          (λ t k a. into t k (T-left (p t) (eqb (s t) (suc j)) a))
          (λ t k a. and_T (q (to t)) (eqb (r (to t)) (suc j)) (pass t k (T-left (p t) (eqb (s t) (suc j)) a))
          (subst (λ x. T (eqb x (suc j))) (same t k) (T-right (p t) (eqb (s t) (suc j)) a)))
          (λ t u k i a b. apart t u k i));
    })

-- ---- what it says that minima are valid

module _ (k : ℕ) (M : Minima) where
  abbrev zero? : ℕ → Bool
  zero? j = cond (ltb j k) true (eqb (get_or M.b j 0) 0)

  abbrev tests : List Bool
  tests = between 1 120 M.b0 ∷ eqb (length M.b) 8 ∷ leb (sum_below 8 (λ j. get_or M.b j 0)) M.b0 ∷ every 8 zero? ∷ []

  zero_at : (j : ℕ) → T (zero? j) → k ≤ j → get_or M.b j 0 ≡ 0
  zero_at j t l = eqb→eq (get_or M.b j 0) 0 (subst T (cond_no (ltb j k) true (eqb (get_or M.b j 0) 0) (le→nltb j k l)) t)

  zero_of : (j : ℕ) → (k ≤ j → get_or M.b j 0 ≡ 0) → T (zero? j)
  zero_of j f = by (ltb j k) (λ t. nltb→le j k t)
    where
      by : (b : Bool) → (T (not b) → k ≤ j) → T (cond b true (eqb (get_or M.b j 0) 0))
      by true h = tt
      by false h = eq→eqb (get_or M.b j 0) 0 (f (h tt))

  pub valid_minima-T : T (valid_minima k M) ↔ MinimaFit k M
  unfolding valid_minima
  valid_minima-T = (
    λ t. let e = each_at tests t in
        let b = (between-T 1 120 M.b0).0 e.0 in
        record {
          low = b.0;
          high = b.1;
          eight = eqb→eq (length M.b) 8 e.1.0;
          sum = leb→le _ _ e.1.1.0;
          above = λ j l h. zero_at j (every_at 8 zero? e.1.1.1.0 j h) l;
        },
    λ f. each_of tests (
      (between-T 1 120 M.b0).1 (f.low, f.high),
      (
        eq→eqb (length M.b) 8 f.eight,
        (le→leb (sum_below 8 (λ j. get_or M.b j 0)) M.b0 f.sum, (every_of 8 zero? (λ j h. zero_of j (λ l. f.above j l h)), tt)),
      ),
    ),
  )

-- ---- the distances

swap : (a b : Bool) (x y : ℕ) → (T a → T b → ⊥) → cond a x (cond b y 0) ≡ cond b y (cond a x 0)
swap true true x y f = absurd (f tt tt)
swap true false x y f = refl
swap false true x y f = refl
swap false false x y f = refl

pub distance_both_ways : (S : Study) (t u : ℕ) → distance S t u ≡ distance S u t
unfolding distance
distance_both_ways S t u = swap (ltb t u) (ltb u t) _ _ (λ a b. omega (arith, ltb→lt t u a, ltb→lt u t b))

pub distance_itself : (S : Study) (t : ℕ) → distance S t t ≡ 0
unfolding distance
distance_itself S t = cond_no (ltb t t) _ _ (le→nltb t t (le_refl t)) ∙ cond_no (ltb t t) _ _ (le→nltb t t (le_refl t))

-- ---- the problem

pub study_symmetric : (S : Study) → Symmetric (problem S)
unfolding problem
study_symmetric S = record { both_ways = distance_both_ways S; itself = distance_itself S }

pub study_lawful : (S : Study) → TriangleInequality S → Lawful (problem S)
unfolding problem sufficient
study_lawful S O =
    record {
      symmetric = study_symmetric S;
      triangle = O;
      upward = λ p q h.
          meets_along S.minima (size S) (size S) (λ t. (tide S t).setting) (λ t. (tide S t).setting) p q (λ t. t)
          (λ t l a. l) h (λ t l. refl) (λ t u l k e. e);
    }

pub study_reordered : (S R : Study) → Renumbered S R → Reordered (problem S) (problem R)
unfolding problem sufficient
study_reordered S R N =
    record {
      to = N.to;
      back = N.back;
      back_inside = N.back_inside;
      to_back = N.to_back;
      distances = N.distances;
      enough = λ p h.
          meets_along S.minima (size R) (size S) (λ t. (tide R t).setting) (λ t. (tide S t).setting) p (λ s. p (N.back s)) N.to
          (λ t l a. N.to_inside t l) (λ t l a. subst (λ u. T (p u)) (sym (N.back_to t l)) a) N.setting
          (λ t u l k e. sym (N.back_to t l) ∙ ap N.back e ∙ N.back_to u k)
          (subst (λ M. T (meets M (size R) (λ t. (tide R t).setting) p)) N.minima h);
    }

-- all tides together are sufficient exactly when there are b0 of them, and b of each setting
pub ample-T : (S : Study) → T (sufficient S (λ t. true)) ↔ Ample S
unfolding sufficient
ample-T S =
    let e = meets-T S.minima (size S) (λ t. (tide S t).setting) (λ t. true) in (
      λ h. let m = e.0 h in record { whole = omega (arith, m.whole, count_all (size S)); each = m.each },
      λ a. e.1 (record { whole = omega (arith, a.whole, count_all (size S)); each = a.each }),
    )
