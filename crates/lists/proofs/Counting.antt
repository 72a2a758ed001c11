-- More laws of sums and counts over the numbers below a bound. Assumes nothing.
use Prim.Native.Nat.{ℕ, zero, suc, ◌+◌, ◌*◌, ◌≤◌, ◌<◌, min}
use native.Mathlib.Nat.{le_refl}
use native.Mathlib.Decide.{le_ind}
use native.Mathlib.Numerals.{add-one}
use native.Mathlib.Omega.{arith}
use mathlib.Core.Path.{◌≡◌, refl, sym, ap, subst}
use mathlib.Core.Logic.{◌⊎◌, inl, inr, ⊎_elim}
use mathlib.Core.Bool.{Bool, true, false, cond, ◌&&◌, not}
use lib.Dec.{T, ltb, eqb, ltb→lt, nltb→le, eqb→eq, eqb_refl, not_T, T_not}
use Rattle.lists.specs.Lists.{sum_below, bit, count_below}
use Rattle.lists.proofs.Tests.{and_T, T-left, T-right, T_true, T_false, test, split, cond_yes, cond_no}
use Rattle.lists.proofs.Counts.{sum_zero, sum_suc, sum_same, sum_bump, count_zero, count_le, count_hit, count_miss}

-- ---- sums

pub sum_none : (n : ℕ) (f : ℕ → ℕ) → ((t : ℕ) → t < n → f t ≡ 0) → sum_below n f ≡ 0
unfolding sum_below
sum_none zero f h = refl
sum_none (suc n) f h = omega (arith, sum_none n f (λ t l. h t (omega arith)), h n (omega arith))

-- a sum with one part
pub sum_one : (n : ℕ) (f : ℕ → ℕ) (i : ℕ) → i < n → ((t : ℕ) → t < n → (t ≡ i → ⊥) → f t ≡ 0) → sum_below n f ≡ f i
sum_one n f i l h = omega (arith, sum_none n (λ t. 0) (λ t k. refl), sum_bump n (λ t. 0) f i (f i) l (omega arith) h)

pub sum_const : (n c : ℕ) → sum_below n (λ t. c) ≡ n * c
sum_const zero c = omega (arith, sum_zero (λ t. c))
sum_const (suc n) c = omega (arith, sum_suc n (λ t. c), sum_const n c)

-- one more, for a loop that goes up by i + 1
pub sum_next : (i : ℕ) (f : ℕ → ℕ) → sum_below (i + 1) f ≡ sum_below i f + f i
sum_next i f = rw (add-one i) (sum_suc i f)

pub sum_front : (f : ℕ → ℕ) (i n : ℕ) → i ≤ n → sum_below i f ≤ sum_below n f
sum_front f i n h = le_ind (λ k. sum_below i f ≤ sum_below k f) (le_refl (sum_below i f)) (λ k l e. omega (arith, sum_suc k f)) n h

-- ---- counts

pub count_next : (i : ℕ) (q : ℕ → Bool) → count_below (i + 1) q ≡ count_below i q + bit (q i)
unfolding count_below
count_next i q = sum_next i (λ t. bit (q t))

-- tests that pass the same numbers have one count
pub count_iff : (n : ℕ) (p q : ℕ → Bool) → ((t : ℕ) → t < n → T (p t) → T (q t)) → ((t : ℕ) → t < n → T (q t) → T (p t)) → count_below n p ≡ count_below n q
count_iff n p q there back = omega (arith, count_le n p q there, count_le n q p back)

-- ---- how many pass before a number

module _ (q : ℕ → Bool) where
  count_step : (n : ℕ) → count_below n q ≤ count_below (suc n) q
  count_step n = ⊎_elim (λ t. omega (arith, count_hit n q t)) (λ t. omega (arith, count_miss n q t)) (test (q n))

  pub count_front : (a b : ℕ) → a ≤ b → count_below a q ≤ count_below b q
  count_front a b h = le_ind (λ k. count_below a q ≤ count_below k q) (le_refl (count_below a q)) (λ k l e. omega (arith, count_step k)) b h

  pub count_before : (a b : ℕ) → T (q a) → a < b → count_below a q < count_below b q
  count_before a b t h = omega (arith, count_hit a q t, count_front (suc a) b h)

  -- a number that passes is known by how many pass before it
  pub count_apart : (a b : ℕ) → T (q a) → T (q b) → count_below a q ≡ count_below b q → a ≡ b
  count_apart a b s t e =
      ⊎_elim (λ l. absurd (omega (arith, count_before a b s l)))
      (λ l. ⊎_elim (λ k. absurd (omega (arith, count_before b a t k))) (λ k. omega arith) (split b a)) (split a b)

  pub count_none : (n : ℕ) → count_below n q ≡ 0 → (t : ℕ) → t < n → T (not (q t))
  count_none n e t l = not_T (q t) (λ s. omega (arith, count_before t n s l))

  -- the number below n that passes with i that pass before it
  unfoldable pub nth : ℕ → ℕ → ℕ
  nth zero i = 0
  nth (suc n) i = cond (ltb i (count_below n q)) (nth n i) n

  pub record Nth (n i t : ℕ) : Type 0 where
    pub below : t < n
    pub pass : T (q t)
    pub rank : count_below t q ≡ i

  pub nth_is : (n i : ℕ) → i < count_below n q → Nth n i (nth n i)
  unfolding nth
  nth_is zero i h = absurd (omega (arith, count_zero q))
  nth_is (suc n) i h =
      ⊎_elim
      (λ t. let r = nth_is n i (ltb→lt i (count_below n q) t) in
      subst (Nth (suc n) i) (sym (cond_yes (ltb i (count_below n q)) (nth n i) n t))
      (record { below = omega (arith, r.below); pass = r.pass; rank = r.rank }))
      (λ t. subst (Nth (suc n) i) (sym (cond_no (ltb i (count_below n q)) (nth n i) n t)) (last (nltb→le i (count_below n q) t) (test (q n))))
      (test (ltb i (count_below n q)))
    where
      last : count_below n q ≤ i → T (q n) ⊎ T (not (q n)) → Nth (suc n) i n
      last l (inl t) = record { below = omega arith; pass = t; rank = omega (arith, count_hit n q t) }
      last l (inr t) = absurd (omega (arith, count_miss n q t))

-- ---- the first k that pass

unfoldable pub firsts : ℕ → (ℕ → Bool) → ℕ → Bool
firsts k q t = q t && ltb (count_below t q) k

module _ (k : ℕ) (q : ℕ → Bool) where
  pub firsts_pass : (t : ℕ) → T (firsts k q t) → T (q t)
  unfolding firsts
  firsts_pass t h = T-left (q t) (ltb (count_below t q) k) h

  pub count_firsts : (n : ℕ) → count_below n (firsts k q) ≡ min k (count_below n q)
  unfolding count_below sum_below firsts
  count_firsts zero = omega arith
  count_firsts (suc n) = one_more (q n) (count_below n q) (count_below n (firsts k q)) (count_firsts n)
    where
      one_more : (b : Bool) (c x : ℕ) → x ≡ min k c → x + bit (b && ltb c k) ≡ min k (c + bit b)
      one_more true c x e =
          ⊎_elim (λ t. omega (arith, ltb→lt c k t, ap bit (T_true (ltb c k) t)))
          (λ t. omega (arith, nltb→le c k t, ap bit (T_false (ltb c k) t))) (test (ltb c k))
      one_more false c x e = omega arith

-- ---- counts by classes

bit_by : (a b : Bool) → bit a ≡ bit (a && b) + bit (a && not b)
bit_by true true = refl
bit_by true false = refl
bit_by false b = refl

-- those that pass p: those that pass q too, and those that don't
pub count_by : (n : ℕ) (p q : ℕ → Bool) → count_below n p ≡ count_below n (λ t. p t && q t) + count_below n (λ t. p t && not (q t))
unfolding count_below sum_below
count_by zero p q = refl
count_by (suc n) p q = omega (arith, count_by n p q, bit_by (p n) (q n))

-- where f puts each number into one of k classes, the classes together are all that pass
pub count_classes : (k n : ℕ) (q : ℕ → Bool) (f : ℕ → ℕ) → ((t : ℕ) → t < n → f t < k)
    → sum_below k (λ j. count_below n (λ t. q t && eqb (f t) j)) ≡ count_below n q
count_classes k zero q f h = omega
    (arith, count_zero q, sum_none k (λ j. count_below 0 (λ t. q t && eqb (f t) j)) (λ j l. count_zero (λ t. q t && eqb (f t) j)))
count_classes k (suc n) q f h = turn (count_classes k n q f (λ t l. h t (omega arith))) (test (q n))
  where
    part : ℕ → ℕ → ℕ
    part m j = count_below m (λ t. q t && eqb (f t) j)

    other : (j : ℕ) → (T (q n && eqb (f n) j) → ⊥) → part (suc n) j ≡ part n j
    other j e = count_miss n (λ t. q t && eqb (f t) j) (not_T (q n && eqb (f n) j) e)

    turn : sum_below k (part n) ≡ count_below n q → T (q n) ⊎ T (not (q n)) → sum_below k (part (suc n)) ≡ count_below (suc n) q
    turn ih (inl t) =
        omega (
          arith,
          count_hit n q t,
          sum_bump k (part n) (part (suc n)) (f n) 1 (h n (omega arith))
              (count_hit n (λ u. q u && eqb (f u) (f n)) (and_T (q n) (eqb (f n) (f n)) t (eqb_refl (f n))))
              (λ j l e. other j (λ s. e (sym (eqb→eq (f n) j (T-right (q n) (eqb (f n) j) s))))),
        )
    turn ih (inr t) =
        omega (
          arith,
          count_miss n q t,
          sum_same k (part (suc n)) (part n) (λ j l. other j (λ s. T_not (q n) t (T-left (q n) (eqb (f n) j) s))),
        )
