-- The least number above g of those that Of holds of, or start where none of them is less. Assumes nothing.
use Prim.Native.Nat.{ℕ, ◌+◌, ◌-◌, ◌<◌}
use native.Mathlib.Omega.{arith}
use mathlib.Core.Path.{◌≡◌, refl, sym, subst}
use mathlib.Core.Logic.{◌⊎◌, inl, inr, ⊎_elim}
use mathlib.Core.List.{List}
use lib.ListN.{get_or}
use Rattle.lists.proofs.Tests.{split}
use Rattle.study.specs.Limits.{cell}
use Rattle.radius_theory.specs.Radii.{no_radius}
use Rattle.radius_search.specs.Next.{Next, InRow, InRows, InLater, InPairs, InAll, FirstFrom}

pub next_none : (Of : ℕ → Type 0) (g start : ℕ) → ((x : ℕ) → Of x → ⊥) → Next Of g start start
next_none Of g start f = record { most = omega arith; least = λ x v. absurd (f x v); is = inl refl }

pub next_up : {Of : ℕ → Type 0} {g start r : ℕ} → g < start → Next Of g start r → g < r
next_up l N = ⊎_elim (λ e. omega arith) (λ q. q.1) N.is

-- from those of Of to those of Any: each of Any is one of Of or of Also, and back
next_more : (Of Also Any : ℕ → Type 0) {g start best r : ℕ} → ((x : ℕ) → Any x → Of x ⊎ Also x) → ((x : ℕ) → Of x → Any x) → ((x : ℕ) → Also x → Any x)
    → Next Of g start best → Next Also g best r → Next Any g start r
next_more Of Also Any {g} {start} {best} {r} by old new N M =
    record {
      most = omega (arith, N.most, M.most);
      least = λ x w l. ⊎_elim (λ v. omega (arith, N.least x v l, M.most)) (λ u. M.least x u l) (by x w);
      is = ⊎_elim (λ e. subst (λ z. (z ≡ start) ⊎ (Any z × (g < z))) (sym e) before) (λ q. inr (new r q.0, q.1)) M.is;
    }
  where
    before : (best ≡ start) ⊎ (Any best × (g < best))
    before = ⊎_elim (λ f. inl f) (λ q. inr (old best q.0, q.1)) N.is

-- ---- which distances

-- an index below m + 1 is below m, or m
last : (P : ℕ → Type 0) (Q : Type 0) (m i : ℕ) → i < m + 1 → (i < m → Q) → (P m → Q) → P i → Q
last P Q m i l f h p = ⊎_elim f (λ k. h (subst P (omega arith) p)) (split i m)

module _ (d : List ℕ) {g start best r : ℕ} where
  pub row_step : (c t : ℕ) → Next (InRow d c t) g start best → Next (λ y. y ≡ cell d c t) g best r → Next (InRow d c (t + 1)) g start r
  row_step c t =
      next_more (InRow d c t) (λ y. y ≡ cell d c t) (InRow d c (t + 1))
      (λ x w. last (λ u. x ≡ cell d c u) (InRow d c t x ⊎ (x ≡ cell d c t)) t w.0 w.1 (λ k. inl (w.0, k, w.2)) (λ e. inr e) w.2)
      (λ x v. (v.0, omega (arith, v.1), v.2)) (λ x e. (t, omega arith, e))

  pub rows_step : (n : ℕ) (f : ℕ → ℕ) (m : ℕ) → Next (InRows d n f m) g start best → Next (InRow d (f m) n) g best r
      → Next (InRows d n f (m + 1)) g start r
  rows_step n f m =
      next_more (InRows d n f m) (InRow d (f m) n) (InRows d n f (m + 1))
      (λ x w. last (λ i. InRow d (f i) n x) (InRows d n f m x ⊎ InRow d (f m) n x) m w.0 w.1 (λ k. inl (w.0, k, w.2)) (λ e. inr e) w.2)
      (λ x v. (v.0, omega (arith, v.1), v.2)) (λ x u. (m, omega arith, u))

  pub later_step : (cs : List ℕ) (i m : ℕ) → i < m → Next (InLater d cs i m) g start best
      → Next (λ y. y ≡ cell d (get_or cs i 0) (get_or cs m 0)) g best r
      → Next (InLater d cs i (m + 1)) g start r
  later_step cs i m h =
      next_more (InLater d cs i m) (λ y. y ≡ cell d (get_or cs i 0) (get_or cs m 0)) (InLater d cs i (m + 1))
      (λ x w. last (λ j. x ≡ cell d (get_or cs i 0) (get_or cs j 0)) (InLater d cs i m x ⊎ (x ≡ cell d (get_or cs i 0) (get_or cs m 0)))
      m w.0 w.2 (λ k. inl (w.0, w.1, k, w.3)) (λ e. inr e) w.3)
      (λ x v. (v.0, v.1, omega (arith, v.2), v.3)) (λ x e. (m, h, omega arith, e))

  pub pairs_step : (cs : List ℕ) (count k : ℕ) → Next (InPairs d cs count k) g start best → Next (InLater d cs k count) g best r
      → Next (InPairs d cs count (k + 1)) g start r
  pairs_step cs count k =
      next_more (InPairs d cs count k) (InLater d cs k count) (InPairs d cs count (k + 1))
      (λ x w. last (λ i. InLater d cs i count x) (InPairs d cs count k x ⊎ InLater d cs k count x)
      k w.0 w.1 (λ q. inl (w.0, q, w.2)) (λ e. inr e) w.2)
      (λ x v. (v.0, omega (arith, v.1), v.2)) (λ x u. (k, omega arith, u))

-- ---- the least candidate from g on

pub first_zero : (d : List ℕ) (n : ℕ) → FirstFrom d n 0 0
first_zero d n = record { least = λ x v l. omega arith; is = inr (inl refl) }

pub first_next : (d : List ℕ) (n g : ℕ) {r : ℕ} → 0 < g → Next (InAll d n) (g - 1) no_radius r → FirstFrom d n g r
first_next d n g l N =
    record {
      least = λ x v k. ⊎_elim (λ e. absurd (omega arith)) (λ w. N.least x w (omega arith)) v;
      is = ⊎_elim (λ e. inl e) (λ q. inr (inr q.0)) N.is;
    }
