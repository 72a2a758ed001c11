-- A bound below which no radius has an assignment: the first tide is always a centre, so its ball must be sufficient. Assumes nothing.
use Prim.Native.Nat.{ℕ, ◌+◌, ◌<◌}
use native.Mathlib.Omega.{arith}
use mathlib.Core.Path.{◌≡◌, subst}
use mathlib.Core.Bool.{false}
use mathlib.Core.List.{List}
use lib.Dec.{T}
use Rattle.promise.specs.Promise.{Test}
use Rattle.radius_theory.specs.Arrays.{array_problem, ball}
use Rattle.radius_theory.proofs.RadiiLaws.{none_first}
use Rattle.radius_search.specs.Bounds.{Bounded}

pub bounded_zero : (d : List ℕ) (n : ℕ) (E : Test) → Bounded d n E 0
bounded_zero d n E = record { none = λ Q h l. absurd (omega arith) }

pub bounded_more : (d : List ℕ) (n : ℕ) (E : Test) (g : ℕ) → 0 < n → E (ball d 0 g) ≡ false → Bounded d n E (g + 1)
unfolding array_problem
bounded_more d n E g pos e = record { none = λ Q h l. none_first Q pos g (λ F. subst T e F) h (omega arith) }
