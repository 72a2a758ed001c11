-- Runs of fields, one after the other: where each begins, their widths together, and what is read of them. Assumes nothing.
use Prim.Native.Nat.{ℕ, zero, suc, ◌+◌, ◌*◌, ◌^◌, ◌<◌}
use native.Mathlib.Nat.{not-suc-le-zero, mul-suc, mul-zero, add_assoc, add-zero}
use native.Mathlib.Omega.{arith}
use mathlib.Core.Path.{◌≡◌, refl, sym, ap, ◌∙◌, subst}
use mathlib.Core.Logic.{◌↔◌}
use mathlib.Core.List.{List, [], ◌∷◌, ◌++◌, map, flat_map}
use lib.ListN.{length, get_or}
use Rattle.file_format.specs.Bits.{Field, field}
use Rattle.file_format.proofs.BitLaws.{Agrees, Small, total}

-- ---- two lists of fields

pub total_append : (xs ys : List Field) → total (xs ++ ys) ≡ total xs + total ys
total_append [] ys = omega arith
total_append (x ∷ xs) ys = omega (arith, total_append xs ys)

pub small_append : (xs ys : List Field) → Small xs → Small ys → Small (xs ++ ys)
small_append [] ys a b = b
small_append (x ∷ xs) ys a b = (a.0, small_append xs ys a.1 b)

pub agrees_append : (g : ℕ → ℕ → ℕ) (at : ℕ) (xs ys : List Field) → Agrees g at (xs ++ ys) ↔ (Agrees g at xs × Agrees g (at + total xs) ys)
agrees_append g at [] ys =
    let e = add-zero at in (λ a. (tt, subst (λ p. Agrees g p ys) (sym e) a), λ h. subst (λ p. Agrees g p ys) e h.1)
agrees_append g at (x ∷ xs) ys =
    let r = agrees_append g (at + x.width) xs ys in
    let e = add_assoc at x.width (total xs) in (
      λ a. ((a.0, (r.0 a.1).0), subst (λ p. Agrees g p ys) e (r.0 a.1).1),
      λ h. (h.0.0, r.1 (h.0.1, subst (λ p. Agrees g p ys) (sym e) h.1)),
    )

-- ---- a run of fields for each element of a list

module _ {A : Type 0} (h : A → List Field) (d : A) where
  -- the run of element i begins at `start i`
  abbrev pub StartsWith : (ℕ → ℕ) → List A → Type 0
  StartsWith start xs = (i : ℕ) → i < length xs → start (suc i) ≡ start i + total (h (get_or xs i d))

  pub runs_total : (start : ℕ → ℕ) (xs : List A) → StartsWith start xs → start 0 + total (flat_map h xs) ≡ start (length xs)
  unfolding flat_map
  runs_total start [] b = omega arith
  runs_total start (x ∷ xs) b =
      omega (arith, total_append (h x) (flat_map h xs), b 0 (omega arith), runs_total (λ i. start (suc i)) xs (λ i l. b (suc i) (omega arith)))

  pub runs_small : (xs : List A) → ((i : ℕ) → i < length xs → Small (h (get_or xs i d))) → Small (flat_map h xs)
  unfolding flat_map
  runs_small [] f = tt
  runs_small (x ∷ xs) f = small_append (h x) (flat_map h xs) (f 0 (omega arith)) (runs_small xs (λ i l. f (suc i) (omega arith)))

  pub runs_agree : (g : ℕ → ℕ → ℕ) (start : ℕ → ℕ) (xs : List A) → StartsWith start xs
      → Agrees g (start 0) (flat_map h xs) ↔ ((i : ℕ) → i < length xs → Agrees g (start i) (h (get_or xs i d)))
  unfolding flat_map
  runs_agree g start [] b = (λ a i l. absurd (not-suc-le-zero l), λ f. tt)
  runs_agree g start (x ∷ xs) b =
      let two = agrees_append g (start 0) (h x) (flat_map h xs) in
      let e = b 0 (omega arith) in
      let r = runs_agree g (λ i. start (suc i)) xs (λ i l. b (suc i) (omega arith)) in (
        λ a. each (two.0 a).0 (r.0 (subst (λ p. Agrees g p (flat_map h xs)) (sym e) (two.0 a).1)),
        λ f. two.1 (f 0 (omega arith), subst (λ p. Agrees g p (flat_map h xs)) e (r.1 (λ i l. f (suc i) (omega arith)))),
      )
    where
      each : Agrees g (start 0) (h x) → ((i : ℕ) → i < length xs → Agrees g (start (suc i)) (h (get_or xs i d)))
          → (i : ℕ) → i < suc (length xs) → Agrees g (start i) (h (get_or (x ∷ xs) i d))
      each a f zero l = a
      each a f (suc i) l = f i (omega arith)

-- ---- values of one width

module _ (w : ℕ) where
  abbrev one : ℕ → List Field
  one v = field w v ∷ []

  one_each : (vs : List ℕ) → flat_map one vs ≡ map (field w) vs
  unfolding flat_map
  one_each [] = refl
  one_each (v ∷ vs) = ap (λ fs. field w v ∷ fs) (one_each vs)

  module _ (vs : List ℕ) where
    begins : (at : ℕ) → StartsWith one 0 (λ i. at + w * i) vs
    begins at i l = omega (arith, mul-suc w i)

    pub values_total : total (map (field w) vs) ≡ w * length vs
    values_total = ap total (sym (one_each vs)) ∙ omega (arith, runs_total one 0 (λ i. 0 + w * i) vs (begins 0), mul-zero w)

    pub values_small : ((i : ℕ) → i < length vs → get_or vs i 0 < 2 ^ w) → Small (map (field w) vs)
    values_small f = subst Small (one_each vs) (runs_small one 0 vs (λ i l. (f i l, tt)))

    pub values_agree : (g : ℕ → ℕ → ℕ) (at : ℕ) → Agrees g at (map (field w) vs) ↔ ((i : ℕ) → i < length vs → g (at + w * i) w ≡ get_or vs i 0)
    values_agree g at =
        let r = runs_agree one 0 g (λ i. at + w * i) vs (begins at) in
        let e : at + w * 0 ≡ at = omega (arith, mul-zero w) in (
          λ a i l. (r.0 (subst (Agrees g (at + w * 0)) (sym (one_each vs)) (subst (λ p. Agrees g p (map (field w) vs)) (sym e) a)) i l).0,
          λ f. subst (λ p. Agrees g p (map (field w) vs)) e (subst (Agrees g (at + w * 0)) (one_each vs) (r.1 (λ i l. (f i l, tt)))),
        )
