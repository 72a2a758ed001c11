-- Sums and counts over the numbers below a bound, and the pigeonhole principle. Assumes nothing.
use Prim.Native.Nat.{ℕ, zero, suc, ◌+◌, ◌≤◌, ◌<◌, zero-le}
use native.Mathlib.Omega.{arith}
use native.Mathlib.Numerals.{add-one}
use mathlib.Core.Path.{◌≡◌, refl, ap, ap₂, subst}
use mathlib.Core.Logic.{⊎_elim}
use mathlib.Core.Bool.{Bool, true, false, ◌&&◌, not}
use lib.Dec.{T, eqb, eqb→eq, eqb_refl, not_T, T_not}
use Rattle.lists.specs.Lists.{sum_below, bit, count_below}
use Rattle.lists.proofs.Tests.{and_T, T-left, T_true, T_false, test, split}

-- ---- sums

pub sum_zero : (f : ℕ → ℕ) → sum_below 0 f ≡ 0
unfolding sum_below
sum_zero f = refl

pub sum_suc : (n : ℕ) (f : ℕ → ℕ) → sum_below (suc n) f ≡ sum_below n f + f n
unfolding sum_below
sum_suc n f = refl

pub sum_le : (n : ℕ) (f h : ℕ → ℕ) → ((t : ℕ) → t < n → f t ≤ h t) → sum_below n f ≤ sum_below n h
unfolding sum_below
sum_le zero f h e = zero-le
sum_le (suc n) f h e = omega (arith, sum_le n f h (λ t l. e t (omega arith)), e n (omega arith))

pub sum_same : (n : ℕ) (f h : ℕ → ℕ) → ((t : ℕ) → t < n → f t ≡ h t) → sum_below n f ≡ sum_below n h
unfolding sum_below
sum_same zero f h e = refl
sum_same (suc n) f h e = ap₂ (λ a b. a + b) (sum_same n f h (λ t l. e t (omega arith))) (e n (omega arith))

-- two sums that differ at one place, by d
pub sum_bump : (n : ℕ) (f h : ℕ → ℕ) (i d : ℕ) → i < n → h i ≡ f i + d → ((t : ℕ) → t < n → (t ≡ i → ⊥) → h t ≡ f t) → sum_below n h ≡ sum_below n f + d
unfolding sum_below
sum_bump zero f h i d l e o = absurd (omega arith)
sum_bump (suc n) f h i d l e o =
    ⊎_elim
    (λ k. let a = sum_bump n f h i d k e (λ t m. o t (omega arith)) in let b = o n (omega arith) (λ q. omega arith) in omega arith)
    (λ k. let q : n ≡ i = omega arith in
    let a : sum_below n h ≡ sum_below n f = sum_same n h f (λ t m. o t (omega arith) (λ r. omega arith)) in
    let b : h n ≡ f n + d = rw q e in
    omega arith)
    (split i n)

-- ---- counts

bit_le : (a b : Bool) → (T a → T b) → bit a ≤ bit b
bit_le true true h = omega arith
bit_le true false h = absurd (h tt)
bit_le false b h = omega arith

bit_yes : (b : Bool) → T b → bit b ≡ 1
bit_yes b t = ap bit (T_true b t)

bit_no : (b : Bool) → T (not b) → bit b ≡ 0
bit_no b t = ap bit (T_false b t)

pub count_zero : (p : ℕ → Bool) → count_below 0 p ≡ 0
unfolding count_below sum_below
count_zero p = refl

pub count_le : (n : ℕ) (p q : ℕ → Bool) → ((t : ℕ) → t < n → T (p t) → T (q t)) → count_below n p ≤ count_below n q
unfolding count_below
count_le n p q h = sum_le n (λ t. bit (p t)) (λ t. bit (q t)) (λ t l. bit_le (p t) (q t) (h t l))

pub count_same : (n : ℕ) (p q : ℕ → Bool) → ((t : ℕ) → t < n → p t ≡ q t) → count_below n p ≡ count_below n q
unfolding count_below
count_same n p q h = sum_same n (λ t. bit (p t)) (λ t. bit (q t)) (λ t l. ap bit (h t l))

-- one more is counted, or not
pub count_hit : (n : ℕ) (p : ℕ → Bool) → T (p n) → count_below (suc n) p ≡ count_below n p + 1
unfolding count_below sum_below
count_hit n p t = ap (λ b. count_below n p + b) (bit_yes (p n) t)

pub count_miss : (n : ℕ) (p : ℕ → Bool) → T (not (p n)) → count_below (suc n) p ≡ count_below n p
unfolding count_below sum_below
count_miss n p t = omega (arith, bit_no (p n) t)

-- the same for a loop that goes up by i + 1
pub count_yes : (i : ℕ) (p : ℕ → Bool) → T (p i) → count_below (i + 1) p ≡ count_below i p + 1
count_yes i p t = rw (add-one i) (count_hit i p t)

pub count_no : (i : ℕ) (p : ℕ → Bool) → (T (p i) → ⊥) → count_below (i + 1) p ≡ count_below i p
count_no i p f = rw (add-one i) (count_miss i p (not_T (p i) f))

pub count_all : (n : ℕ) → count_below n (λ t. true) ≡ n
unfolding count_below sum_below
count_all zero = refl
count_all (suc n) = omega (arith, count_all n)

pub count_most : (n : ℕ) (p : ℕ → Bool) → count_below n p ≤ n
count_most n p = omega (arith, count_all n, count_le n p (λ t. true) (λ t l h. tt))

-- p without x
abbrev without : (ℕ → Bool) → ℕ → ℕ → Bool
without p x t = p t && not (eqb t x)

without_other : (p : ℕ → Bool) (x t : ℕ) → (t ≡ x → ⊥) → T (p t) → T (without p x t)
without_other p x t d h = and_T (p t) (not (eqb t x)) h (not_T (eqb t x) (λ e. d (eqb→eq t x e)))

without_self : (p : ℕ → Bool) (x : ℕ) → T (not (without p x x))
without_self p x = none (p x) (eqb x x) (eqb_refl x)
  where
    none : (a b : Bool) → T b → T (not (a && not b))
    none true true t = tt
    none true false t = absurd t
    none false b t = tt

count_without : (n : ℕ) (p : ℕ → Bool) (x : ℕ) → x < n → T (p x) → count_below n (without p x) + 1 ≤ count_below n p
count_without zero p x l t = absurd (omega arith)
count_without (suc n) p x l t =
    ⊎_elim
    (λ k. let h = count_without n p x k t in
    ⊎_elim (λ s. omega (arith, count_hit n p s, less (without p x) n))
    (λ s. omega (arith, count_miss n p s, count_miss n (without p x) (not_T (without p x n) (λ w. T_not (p n) s (T-left (p n) (not (eqb n x)) w)))))
    (test (p n)))
    (λ k. let q : x ≡ n = omega arith in
    omega (
      arith,
      count_hit n p (subst (λ y. T (p y)) q t),
      count_miss n (without p x) (subst (λ y. T (not (without p x y))) q (without_self p x)),
      count_le n (without p x) p (λ u m w. T-left (p u) (not (eqb u x)) w),
    ))
    (split x n)
  where
    less : (q : ℕ → Bool) (i : ℕ) → count_below (suc i) q ≤ count_below i q + 1
    less q i = ⊎_elim (λ s. omega (arith, count_hit i q s)) (λ s. omega (arith, count_miss i q s)) (test (q i))

-- where h takes different numbers below k that pass p to different numbers below n that pass q, no more pass p than q
pub count_into : (k n : ℕ) (p q : ℕ → Bool) (h : ℕ → ℕ) → ((s : ℕ) → s < k → T (p s) → h s < n) → ((s : ℕ) → s < k → T (p s) → T (q (h s)))
    → ((s u : ℕ) → s < k → u < k → T (p s) → T (p u) → h s ≡ h u → s ≡ u) → count_below k p ≤ count_below n q
count_into zero n p q h into pass apart = omega (arith, count_zero p)
count_into (suc k) n p q h into pass apart =
    ⊎_elim
    (λ t. let e : k < suc k = omega arith in
    let r = count_into k n p (without q (h k)) h (λ s l. into s (omega arith))
    (λ s l u. without_other q (h k) (h s) (λ e. absurd (omega (arith, apart s k (omega arith) (omega arith) u t e))) (pass s (omega arith) u))
    (λ s u l m. apart s u (omega arith) (omega arith)) in
    omega (arith, count_hit k p t, count_without n q (h k) (into k e t) (pass k e t)))
    (λ t. let fewer = count_into k n p q h (λ s l. into s (omega arith)) (λ s l. pass s (omega arith)) (λ s u l m. apart s u (omega arith) (omega arith)) in
    omega (arith, count_miss k p t, fewer))
    (test (p k))

-- different numbers below n, one for each number below k: k is at most n
pub pigeonhole : (k n : ℕ) (h : ℕ → ℕ) → ((s : ℕ) → s < k → h s < n) → ((s u : ℕ) → s < k → u < k → h s ≡ h u → s ≡ u) → k ≤ n
pigeonhole k n h into apart =
    omega (
      arith,
      count_all k,
      count_all n,
      count_into k n (λ t. true) (λ t. true) h (λ s l t. into s l) (λ s l t. tt) (λ s u l m t v. apart s u l m),
    )
