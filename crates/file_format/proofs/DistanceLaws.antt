-- Distances by the rows of a study, and the triangle inequality tide by tide. Assumes nothing.
use Prim.Native.Nat.{ℕ, ◌≤◌, ◌<◌}
use native.Mathlib.Omega.{arith}
use mathlib.Core.Path.{◌≡◌, ◌∙◌, subst}
use mathlib.Core.Logic.{⊎_elim, ◌↔◌}
use lib.Dec.{T, ltb, lt→ltb}
use lib.Arith.{le→nltb}
use lib.ListN.{get_or}
use Rattle.lists.specs.Lists.{is_empty}
use Rattle.lists.proofs.Tests.{split, cond_yes, cond_no}
use Rattle.study.specs.Study.{Study, size, tide, distance, TriangleInequality}
use Rattle.study.specs.Calls.{violations}
use Rattle.study.proofs.StudyLaws.{distance_both_ways, distance_itself}
use Rattle.study.proofs.TriangleLaws.{obeyed, obeyed_of, ordered_triangle, triangle_of}

module _ (S : Study) where
  -- the later tide's row holds the distance
  pub distance_row : (t i : ℕ) → i < t → distance S t i ≡ get_or (tide S t).row i 0
  unfolding distance
  distance_row t i l = cond_no (ltb t i) _ _ (le→nltb t i (omega arith)) ∙ cond_yes (ltb i t) _ _ (lt→ltb i t l)

  -- a bound of the rows is one of the distances
  pub distance_most : (b : ℕ) → ((t i : ℕ) → t < size S → i < t → get_or (tide S t).row i 0 ≤ b)
      → (t u : ℕ) → t < size S → u < size S → distance S t u ≤ b
  distance_most b f t u p q =
      ⊎_elim (λ l. omega (arith, distance_both_ways S t u, distance_row u t l, f u t q l))
      (λ l. ⊎_elim (λ m. omega (arith, distance_row t u m, f t u p m))
      (λ m. let e : t ≡ u = omega arith in subst (λ z. distance S t z ≤ b) e (omega (arith, distance_itself S t))) (split u t))
      (split t u)

  -- the triangle inequality holds exactly when no pair of earlier tides violates it with any tide
  pub rule-T : TriangleInequality S ↔ ((t : ℕ) → t < size S → T (is_empty (violations (distance S) t (distance S t))))
  rule-T =
      let turn = distance_both_ways S in (
        λ O t l. obeyed_of (distance S) t (distance S t) (λ i j a b.
            rw (turn t i, turn t j) (triangle_of (distance S) turn (size S) O i j t (omega arith) (omega arith) l)),
        λ f. ordered_triangle (distance S) turn (distance_itself S) (size S) (λ i j l a b c.
            rw (turn i l, turn j l) (obeyed (distance S) l (distance S l) (f l c) i j a b)),
      )
