-- What a byte of the table of allowed pairs says. Assumes nothing.
use mathlib.Core.Path.{◌≡◌}
use mathlib.Core.List.{List}
use Prim.Native.Nat.{ℕ}
use lib.Dec.{T, eqb, eqb→eq, not_T, T_not}
use Rattle.lists.proofs.Tests.{eq→eqb}
use Rattle.study.specs.Limits.{cell}
use Rattle.promise.specs.Promise.{allows}

pub allows_yes : (allowed : List ℕ) (t m : ℕ) → (cell allowed m t ≡ 0 → ⊥) → T (allows allowed t m)
unfolding allows
allows_yes allowed t m f = not_T (eqb (cell allowed m t) 0) (λ e. f (eqb→eq (cell allowed m t) 0 e))

pub allows_no : (allowed : List ℕ) (t m : ℕ) → cell allowed m t ≡ 0 → T (allows allowed t m) → ⊥
unfolding allows
allows_no allowed t m e h = T_not (eqb (cell allowed m t) 0) h (eq→eqb (cell allowed m t) 0 e)
