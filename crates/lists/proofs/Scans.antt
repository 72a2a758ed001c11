-- What a loop over the numbers below a bound has found after each turn: one that tests each number, one that adds up. Assumes nothing.
use Prim.Native.Nat.{ℕ, zero, suc, ◌+◌, ◌≤◌, ◌<◌}
use native.Mathlib.Omega.{arith}
use native.Mathlib.Numerals.{add-one}
use mathlib.Core.Path.{◌≡◌, refl, sym, ◌∙◌, subst}
use mathlib.Core.Bool.{Bool, true, false, ◌&&◌, not}
use mathlib.Core.List.{List, [], ◌∷◌}
use lib.Dec.{T, leb, not_T}
use borrow.Author.Tests.{le-leb, lt-leb, not-true, not-false}
use lib.ListN.{get_or}
use Rattle.lists.specs.Lists.{between, each, every, sum_below}
use Rattle.lists.proofs.Tests.{T_false, between-T, every_at}
use Rattle.lists.proofs.Counts.{sum_suc}

-- the last of several tests
pub and_true : (b : Bool) → b ≡ b && true
and_true true = refl
and_true false = refl

-- a test that the code makes by a call, and its answer negated
pub test_passes : {r b : Bool} → r ≡ b → not r ≡ false → b ≡ true
test_passes {r} e f = sym e ∙ not-false r f

pub test_fails : {r b : Bool} → r ≡ b → not r ≡ true → b ≡ false
test_fails {r} e f = sym e ∙ not-true r f

-- two numbers that were computed, compared
pub within_leb : {a b t v : ℕ} → t ≡ a → v ≡ b → t ≤ v → leb a b ≡ true
within_leb {a} {b} p q h = le-leb a b (omega arith)

pub beyond_leb : {a b t v : ℕ} → t ≡ a → v ≡ b → v < t → leb a b ≡ false
beyond_leb {a} {b} p q h = lt-leb a b (omega arith)

pub between_in : (lo hi x : ℕ) → lo ≤ x → x ≤ hi → between lo hi x ≡ true
between_in lo hi x a b = rw (le-leb lo x a, le-leb x hi b)

pub between_low : (lo hi x : ℕ) → x < lo → between lo hi x ≡ false
between_low lo hi x a = rw (lt-leb lo x a)

pub between_high : (lo hi x : ℕ) → hi < x → between lo hi x ≡ false
between_high lo hi x a = T_false (between lo hi x) (not_T (between lo hi x) (λ h. omega (arith, ((between-T lo hi x).0 h).1)))

-- several tests of which one fails
pub each_fails : (bs : List Bool) (i : ℕ) → get_or bs i true ≡ false → each bs ≡ false
each_fails [] i e = e
each_fails (b ∷ bs) zero e = rw e
each_fails (b ∷ bs) (suc i) e = rw (each_fails bs i e) (and_false b)
  where
    and_false : (a : Bool) → a && false ≡ false
    and_false true = refl
    and_false false = refl

-- ---- a test of each number

module _ (p : ℕ → Bool) where
  pub every_none : every 0 p ≡ true
  unfolding every
  every_none = refl

  pub every_more : (i : ℕ) → every i p ≡ true → p i ≡ true → every (i + 1) p ≡ true
  unfolding every
  every_more i h e = rw (add-one i, h, e)

  -- one number that fails
  pub every_fails : (n i : ℕ) → i < n → p i ≡ false → every n p ≡ false
  every_fails n i l e = T_false (every n p) (not_T (every n p) (λ h. subst T e (every_at n p h i l)))

  -- the same of the test that the code makes by a call
  pub every_refuted : (n i : ℕ) {r : Bool} → i < n → r ≡ p i → r ≡ false → false ≡ every n p
  every_refuted n i l e h = sym (every_fails n i l (sym e ∙ h))

  pub every_done : (i n : ℕ) → i ≤ n → n ≤ i → every i p ≡ true → every n p ≡ true
  every_done i n a b h = let e : i ≡ n = omega arith in subst (λ (k : ℕ). every k p ≡ true) e h

-- the steps of a loop that tests each number
pub ruleset scanning = (every_none, every_more)

-- ---- a sum

pub sum_more : (f : ℕ → ℕ) (i : ℕ) {total v : ℕ} → total ≡ sum_below i f → v ≡ f i → total + v ≡ sum_below (i + 1) f
sum_more f i e q = rw (add-one i, sum_suc i f, e, q)

pub sum_done : (f : ℕ → ℕ) (i n : ℕ) {total : ℕ} → i ≤ n → n ≤ i → total ≡ sum_below i f → total ≡ sum_below n f
sum_done f i n {total} a b h = let e : i ≡ n = omega arith in subst (λ (k : ℕ). total ≡ sum_below k f) e h
