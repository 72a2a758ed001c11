-- Sizes and diameters of the blocks, counted tide after tide. Assumes nothing.
use Prim.Native.Nat.{ℕ, zero, suc, ◌+◌, ◌≤◌, ◌<◌, max}
use native.Mathlib.Omega.{arith}
use native.Mathlib.Numerals.{add-one}
use native.Mathlib.Decide.{ℕ_discrete}
use mathlib.Core.Path.{◌≡◌, refl, sym, ap, ap₂, ◌∙◌, subst}
use mathlib.Core.Bool.{Bool, true, false, cond, ◌&&◌}
use mathlib.Core.List.{List}
use lib.Dec.{T, eqb, eqb→eq, not_T}
use lib.ListN.{get_or, set, replicate, length-set, length-replicate, get_or-replicate}
use lib.Seq.{get_or-set_same, get_or-set_other}
use Rattle.lists.specs.Lists.{count_below, greatest}
use Rattle.lists.proofs.Tests.{eq→eqb, cond_yes, cond_no}
use Rattle.lists.proofs.Counts.{count_zero, count_yes, count_no, count_most}
use Rattle.study.specs.Limits.{max_tides}
use Rattle.study.specs.Problem.{block, diameter, greatest_diameter}
use Rattle.study.proofs.ProblemLaws.{greatest_same}
use Rattle.promise.specs.Promise.{Test}
use Rattle.radius_theory.specs.Arrays.{within, array_problem}
use Rattle.blocking_core.specs.Measured.{farthest_of, across_of, widest_of, Measured}

pub greatest_suc : (k : ℕ) (f : ℕ → ℕ) → greatest (k + 1) f ≡ max (f k) (greatest k f)
unfolding greatest
greatest_suc k f = ap (λ z. greatest z f) (add-one k)

pub greatest_none : (f : ℕ → ℕ) → 0 ≡ greatest 0 f
unfolding greatest
greatest_none f = refl

pub greatest_more : (f : ℕ → ℕ) {u x best r : ℕ} → best ≡ greatest u f → x ≡ f u → r ≡ max best x → r ≡ greatest (u + 1) f
greatest_more f {u} e q h = h ∙ ap₂ (λ a b. max b a) q e ∙ omega (arith, greatest_suc u f)

pub measured_none : (d : List ℕ) (n : ℕ) (D : ℕ → ℕ) → Measured d n D 0 (replicate max_tides 0) (replicate max_tides 0) 0
unfolding across_of widest_of greatest
measured_none d n D =
    record {
      sizes_long = length-replicate {A = ℕ} max_tides 0;
      diameters_long = length-replicate {A = ℕ} max_tides 0;
      size = λ i l. get_or-replicate max_tides i 0 0 l ∙ sym (count_zero (block D (suc i)));
      across = λ i l. get_or-replicate max_tides i 0 0 l;
      greatest_is = refl;
    }

module _ {d : List ℕ} {n : ℕ} {D : ℕ → ℕ} {t : ℕ} {sizes diameters : List ℕ} {widest : ℕ} (R : Measured d n D t sizes diameters widest) where
  -- no block has more tides than there are
  pub measured_small : (i : ℕ) → i < max_tides → get_or sizes i 0 ≤ t
  measured_small i l = omega (arith, R.size i l, count_most t (block D (suc i)))

-- one more tide, which belongs to block m + 1
module _ {d : List ℕ} {n : ℕ} {D : ℕ → ℕ} {t : ℕ} {sizes diameters : List ℕ} {widest : ℕ} (R : Measured d n D t sizes diameters widest) (m : ℕ)
    (few : m < max_tides) (own : D t ≡ m + 1) where
  mine : T (block D (suc m) t)
  unfolding block
  mine = eq→eqb (D t) (suc m) (omega arith)

  other : (i : ℕ) → (i ≡ m → ⊥) → T (block D (suc i) t) → ⊥
  unfolding block
  other i e h = let q = eqb→eq (D t) (suc i) h in e (omega arith)

  across_mine : across_of d n D (suc m) (t + 1) ≡ max (farthest_of d n D t t) (across_of d n D (suc m) t)
  unfolding across_of block
  across_mine =
      greatest_suc t (λ u. cond (eqb (D u) (suc m)) (farthest_of d n D u u) 0)
      ∙ ap (λ z. max z (across_of d n D (suc m) t)) (cond_yes (eqb (D t) (suc m)) (farthest_of d n D t t) 0 mine)

  across_other : (i : ℕ) → (i ≡ m → ⊥) → across_of d n D (suc i) (t + 1) ≡ across_of d n D (suc i) t
  unfolding across_of block
  across_other i e =
      greatest_suc t (λ u. cond (eqb (D u) (suc i)) (farthest_of d n D u u) 0)
      ∙ ap (λ z. max z (across_of d n D (suc i) t)) (cond_no (eqb (D t) (suc i)) (farthest_of d n D t t) 0 (not_T (eqb (D t) (suc i)) (other i e)))
      ∙ zero_max (across_of d n D (suc i) t)
    where
      zero_max : (x : ℕ) → max 0 x ≡ x
      zero_max x = omega arith

  pub measured_more : {x y w : ℕ} → x ≡ farthest_of d n D t t → y ≡ max (get_or diameters m 0) x → w ≡ max widest x
      → Measured d n D (t + 1) (set sizes m (get_or sizes m 0 + 1)) (set diameters m y) w
  unfolding widest_of
  measured_more {x} {y} {w} e f h =
      record {
        sizes_long = simp length-set R.sizes_long;
        diameters_long = simp length-set R.diameters_long;
        size = λ i l. size i l (ℕ_discrete i m);
        across = λ i l. across i l (ℕ_discrete i m);
        greatest_is = greatest_more (λ u. farthest_of d n D u u) R.greatest_is e h;
      }
    where
      size : (i : ℕ) → i < max_tides → Dec (i ≡ m) → get_or (set sizes m (get_or sizes m 0 + 1)) i 0 ≡ count_below (t + 1) (block D (suc i))
      size i l (yes q) =
          subst (λ z. get_or (set sizes m (get_or sizes m 0 + 1)) z 0 ≡ count_below (t + 1) (block D (suc z))) (sym q)
          (get_or-set_same sizes m (get_or sizes m 0 + 1) 0 (omega (arith, R.sizes_long)) ∙ ap (λ z. z + 1) (R.size m few)
          ∙ sym (count_yes t (block D (suc m)) mine))
      size i l (no q) =
          get_or-set_other sizes m i (get_or sizes m 0 + 1) 0 q ∙ R.size i l ∙ sym (count_no t (block D (suc i)) (other i q))

      across : (i : ℕ) → i < max_tides → Dec (i ≡ m) → get_or (set diameters m y) i 0 ≡ across_of d n D (suc i) (t + 1)
      across i l (yes q) =
          subst (λ z. get_or (set diameters m y) z 0 ≡ across_of d n D (suc z) (t + 1)) (sym q)
          (get_or-set_same diameters m y 0 (omega (arith, R.diameters_long)) ∙ f ∙ ap₂ (λ a b. max b a) e (R.across m few) ∙ omega (arith, across_mine))
      across i l (no q) = get_or-set_other diameters m i y 0 q ∙ R.across i l ∙ sym (across_other i q)

-- ---- these are the problem's

greatest_zero : (k : ℕ) → greatest k (λ t. 0) ≡ 0
unfolding greatest
greatest_zero zero = refl
greatest_zero (suc k) = ap (λ z. max 0 z) (greatest_zero k)

module _ (d : List ℕ) (n : ℕ) (E : Test) (D : ℕ → ℕ) where
  pub across_diameter : (m : ℕ) → across_of d n D m n ≡ diameter (array_problem d n E) D m
  unfolding across_of farthest_of diameter array_problem block
  across_diameter m = greatest_same n (λ t. cond (eqb (D t) m) (farthest_of d n D t t) 0) _ (λ t l. row t (eqb (D t) m) (λ h. eqb→eq (D t) m h))
    where
      here : (t u : ℕ) → D t ≡ m → cond (eqb (D u) (D t)) (within d n u t) 0 ≡ cond (eqb (D u) m && true) (within d n u t) 0
      here t u e = subst (λ z. cond (eqb (D u) (D t)) (within d n u t) 0 ≡ cond (eqb (D u) z && true) (within d n u t) 0) e (both (eqb (D u) (D t)))
        where
          both : (b : Bool) → cond b (within d n u t) 0 ≡ cond (b && true) (within d n u t) 0
          both true = refl
          both false = refl

      none : (b : Bool) (x : ℕ) → 0 ≡ cond (b && false) x 0
      none true x = refl
      none false x = refl

      row : (t : ℕ) (b : Bool) → (T b → D t ≡ m) → cond b (farthest_of d n D t t) 0 ≡ greatest t (λ u. cond (eqb (D u) m && b) (within d n u t) 0)
      row t true e = greatest_same t (λ u. cond (eqb (D u) (D t)) (within d n u t) 0) _ (λ u k. here t u (e tt))
      row t false e = sym (greatest_zero t) ∙ greatest_same t (λ u. 0) _ (λ u k. none (eqb (D u) m) (within d n u t))

  pub widest_diameter : widest_of d n D n ≡ greatest_diameter (array_problem d n E) D
  unfolding widest_of farthest_of greatest_diameter array_problem
  widest_diameter = refl
