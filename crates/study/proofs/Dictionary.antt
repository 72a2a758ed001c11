-- The blocking comes first in dictionary order of the tides' preferences, and a list that a search finds by asking only whether some
-- assignment continues a given front is the blocking. Assumes nothing.
use Prim.Native.Nat.{ℕ, suc, ◌<◌}
use native.Mathlib.Omega.{arith}
use mathlib.Core.Path.{◌≡◌, subst}
use mathlib.Core.Logic.{◌⊎◌, inl, inr, ⊎_elim}
use mathlib.Core.List.{List, [], head_d}
use lib.Dec.{eqb}
use lib.ListN.{length, get_or}
use Rattle.lists.specs.Lists.{◌among◌, tabulate, before}
use Rattle.lists.proofs.Tables.{length_tabulate, get_d_tabulate}
use Rattle.lists.proofs.Tuples.{Earlier, first_tuple, before_less, before_stage}
use Rattle.study.specs.Problem.{Problem, centres, centre_of, blocks_at, choices, labels, all_sufficient, assignments, radius, blocking}
use Rattle.study.specs.Theorems.{Assignment, Prefers, Precedes, FirstAssignment}
use Rattle.study.proofs.ProblemLaws.{blocks_at_mem, mem_choices, assignment_tuple, assignable_by, first_assignment}

-- a choice that comes before another is preferred to it. This is all that is used of the order of the choices
choice_before : (P : Problem) (g : ℕ) (cs : List ℕ) (t x c : ℕ) → x among choices P g cs t → c among before x (choices P g cs t) → Prefers P cs t c x
unfolding choices blocks_at Prefers
choice_before P g cs t x c m h =
    ⊎_elim inl (λ e. inr (e.0, before_less (λ m. eqb (far m) (far x)) 1 (length cs) x c e.1 e.2))
    (before_stage (blocks_at P.dist cs t) far (λ y m n. (blocks_at_mem P.dist cs t y n).2) 0 (suc g) x c m h)
  where
    -- how far the centre of block m lies from the tide
    far : ℕ → ℕ
    far m = P.dist (centre_of cs m) t

module _ (P : Problem) (g : ℕ) where
  -- the choices of each tide
  abbrev css : List (List ℕ)
  css = tabulate P.size (choices P g (centres P g))

  first : List ℕ
  first = head_d (assignments P g) []

  -- an earlier tuple comes before
  earlier_precedes : (ys : List ℕ) → Assignment P g ys → Earlier css first ys → Precedes P g first ys
  unfolding labels
  earlier_precedes ys A e =
      let t = e.place in
      let l : t < P.size = omega (arith, e.inside, length_tabulate P.size (choices P g (centres P g))) in
      let m = mem_choices P g (centres P g) t (labels ys t) (record { low = A.low t l; high = A.high t l; in_radius = A.in_radius t l }) in
      let here = get_d_tabulate P.size (choices P g (centres P g)) t [] l in
      let b = subst (λ z. get_or first t 0 among before (get_or ys t 0) z) here e.sooner in
      record { tide = t; inside = l; same = e.same; preferred = choice_before P g (centres P g) t (labels ys t) (labels first t) m b }

  first_precedes : (ys : List ℕ) → Assignment P g ys → (first ≡ ys) ⊎ Precedes P g first ys
  unfolding first assignments
  first_precedes ys A =
      let k = assignment_tuple P g ys A in
      ⊎_elim inl (λ e. inr (earlier_precedes ys A e)) (first_tuple css (all_sufficient P (length (centres P g))) ys k.0 k.1)

  first_found : (xs : List ℕ) → FirstAssignment P g xs → first ≡ xs
  unfolding first
  first_found xs F =
      let other = first_assignment P g (assignable_by P g xs F.assignment) in
      ⊎_elim (λ e. e) (λ s. absurd (F.foremost s.tide s.inside first other s.same s.preferred)) (first_precedes xs F.assignment)

pub blocking_precedes : (P : Problem) (ys : List ℕ) → Assignment P (radius P) ys → (blocking P ≡ ys) ⊎ Precedes P (radius P) (blocking P) ys
unfolding blocking first
blocking_precedes P ys A = first_precedes P (radius P) ys A

pub blocking_found : (P : Problem) (xs : List ℕ) → FirstAssignment P (radius P) xs → blocking P ≡ xs
unfolding blocking first
blocking_found P xs F = first_found P (radius P) xs F
