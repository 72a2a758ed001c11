-- Boolean tests: what it says that one passes or fails. Assumes nothing.
use Prim.Native.Nat.{ℕ, zero, suc, ◌≤◌, ◌<◌}
use native.Mathlib.Omega.{arith}
use mathlib.Core.Path.{◌≡◌, refl, sym, ap₂, subst}
use mathlib.Core.Logic.{◌⊎◌, inl, inr, ⊎_elim, ◌↔◌}
use mathlib.Core.Bool.{Bool, true, false, cond, ◌&&◌, not}
use mathlib.Core.List.{List, [], ◌∷◌}
use lib.Dec.{T, leb, eqb, leb→le, le→leb, nleb→lt, eqb_refl, T_not, not_T}
use Rattle.lists.specs.Lists.{between, each, every, any}

pub and_T : (a b : Bool) → T a → T b → T (a && b)
and_T true b s t = t
and_T false b s t = s

pub T-left : (a b : Bool) → T (a && b) → T a
T-left true b t = tt
T-left false b t = t

pub T-right : (a b : Bool) → T (a && b) → T b
T-right true b t = t
T-right false b t = absurd t

pub T_true : (b : Bool) → T b → b ≡ true
T_true true t = refl
T_true false t = absurd t

pub T_false : (b : Bool) → T (not b) → b ≡ false
T_false true t = absurd t
T_false false t = refl

pub true-T : (b : Bool) → b ≡ true → T b
true-T b e = subst T (sym e) tt

pub not_not : (b : Bool) → T (not (not b)) → T b
not_not true t = tt
not_not false t = t

-- a test passes or fails
pub test : (b : Bool) → T b ⊎ T (not b)
test true = inl tt
test false = inr tt

pub eq→eqb : (a b : ℕ) → a ≡ b → T (eqb a b)
eq→eqb a b e = subst (λ c. T (eqb a c)) e (eqb_refl a)

-- two numbers in order
pub split : (a b : ℕ) → (a < b) ⊎ (b ≤ a)
split a b = ⊎_elim (λ t. inl (leb→le (suc a) b t)) (λ t. inr (omega (arith, nleb→lt (suc a) b t))) (test (leb (suc a) b))

-- ---- in a range, and several tests at once

pub between-T : (lo hi x : ℕ) → T (between lo hi x) ↔ ((lo ≤ x) × (x ≤ hi))
between-T lo hi x = (
  λ t. (leb→le lo x (T-left (leb lo x) (leb x hi) t), leb→le x hi (T-right (leb lo x) (leb x hi) t)),
  λ h. and_T (leb lo x) (leb x hi) (le→leb lo x h.0) (le→leb x hi h.1),
)

abbrev pub Each : List Bool → Type 0
Each [] = Unit {0}
Each (b ∷ bs) = T b × Each bs

pub each_at : (bs : List Bool) → T (each bs) → Each bs
each_at [] t = tt
each_at (b ∷ bs) t = (T-left b (each bs) t, each_at bs (T-right b (each bs) t))

pub each_of : (bs : List Bool) → Each bs → T (each bs)
each_of [] t = tt
each_of (b ∷ bs) t = and_T b (each bs) t.0 (each_of bs t.1)

-- ---- picking by a test

module _ {A : Type 0} where
  pub cond_yes : (b : Bool) (x y : A) → T b → cond b x y ≡ x
  cond_yes true x y t = refl
  cond_yes false x y t = absurd t

  pub cond_no : (b : Bool) (x y : A) → T (not b) → cond b x y ≡ y
  cond_no true x y t = absurd t
  cond_no false x y t = refl

-- ---- every

pub every_at : (n : ℕ) (p : ℕ → Bool) → T (every n p) → (i : ℕ) → i < n → T (p i)
unfolding every
every_at zero p h i l = absurd (omega arith)
every_at (suc n) p h i l =
    ⊎_elim (λ k. every_at n p (T-left (every n p) (p n) h) i k)
    (λ k. let e : n ≡ i = omega arith in subst (λ j. T (p j)) e (T-right (every n p) (p n) h)) (split i n)

pub every_of : (n : ℕ) (p : ℕ → Bool) → ((i : ℕ) → i < n → T (p i)) → T (every n p)
unfolding every
every_of zero p f = tt
every_of (suc n) p f = and_T (every n p) (p n) (every_of n p (λ i l. f i (omega arith))) (f n (omega arith))

-- a test that fails over the numbers below n fails at one of them
pub not_every : (n : ℕ) (p : ℕ → Bool) → T (not (every n p)) → (i : ℕ) × (i < n) × T (not (p i))
unfolding every
not_every zero p t = absurd t
not_every (suc n) p t = by (every n p) (p n) (λ s. not_every n p s) (λ s. s) t
  where
    by : (a b : Bool) → (T (not a) → (i : ℕ) × (i < n) × T (not (p i))) → (T (not b) → T (not (p n))) → T (not (a && b))
        → (i : ℕ) × (i < suc n) × T (not (p i))
    by false b f h s = let r = f tt in (r.0, omega (arith, r.1), r.2)
    by true false f h s = (n, omega arith, h tt)
    by true true f h s = absurd s

pub every_same : (n : ℕ) (p q : ℕ → Bool) → ((i : ℕ) → i < n → p i ≡ q i) → every n p ≡ every n q
unfolding every
every_same zero p q e = refl
every_same (suc n) p q e = ap₂ (λ a b. a && b) (every_same n p q (λ i l. e i (omega arith))) (e n (omega arith))

-- ---- any

module _ (n : ℕ) (p : ℕ → Bool) where
  pub any_at : T (any n p) → (i : ℕ) × (i < n) × T (p i)
  any_at t = let r = not_every n (λ i. not (p i)) t in (r.0, r.1, not_not (p r.0) r.2)

  pub any_of : (i : ℕ) → i < n → T (p i) → T (any n p)
  any_of i l t = not_T (every n (λ i. not (p i))) (λ h. T_not (p i) (every_at n (λ i. not (p i)) h i l) t)

  pub none_at : any n p ≡ false → (i : ℕ) → i < n → p i ≡ false
  none_at e i l = T_false (p i) (not_T (p i) (λ t. subst T e (any_of i l t)))

  pub none_of : ((i : ℕ) → i < n → p i ≡ false) → any n p ≡ false
  none_of f = T_false (any n p) (not_T (any n p) (λ t. let r = any_at t in subst T (f r.0 r.1) r.2))

-- the first of them
pub any_first : (n : ℕ) (p : ℕ → Bool) → T (any n p) → (i : ℕ) × (i < n) × T (p i) × ((j : ℕ) → j < i → T (not (p j)))
unfolding every
any_first zero p t = absurd t
any_first (suc n) p t = by (test (any n p)) (λ s. any_first n p s)
  where
    by : T (any n p) ⊎ T (not (any n p)) → (T (any n p) → (i : ℕ) × (i < n) × T (p i) × ((j : ℕ) → j < i → T (not (p j))))
        → (i : ℕ) × (i < suc n) × T (p i) × ((j : ℕ) → j < i → T (not (p j)))
    by (inl s) ih = let r = ih s in (r.0, omega (arith, r.1), r.2, r.3)
    by (inr s) ih = (n, omega arith, last, λ j l. not_T (p j) (λ q. T_not (any n p) s (any_of n p j l q)))
      where
        last : T (p n)
        last = let r = any_at (suc n) p t in
            ⊎_elim (λ l. absurd (T_not (any n p) s (any_of n p r.0 l r.2))) (λ l. let e : r.0 ≡ n = omega (arith, r.1) in subst (λ i. T (p i)) e r.2)
            (split r.0 n)
