-- The problem that a dataset's lists of numbers pose. Assumes nothing.
use Prim.Native.Nat.{ℕ, ◌≤◌, ◌<◌}
use native.Mathlib.Omega.{arith}
use mathlib.Core.Path.{◌≡◌}
use mathlib.Core.Logic.{◌⊎◌, ⊎_elim}
use mathlib.Core.Bool.{◌&&◌}
use mathlib.Core.List.{List}
use lib.Dec.{ltb, lt→ltb, ltb→lt, not_T}
use Rattle.lists.proofs.Tests.{and_T, T-left, T-right, cond_yes, cond_no}
use Rattle.study.specs.Limits.{cell}
use Rattle.radius_theory.specs.Arrays.{within}

pub within_is : (d : List ℕ) (n i j : ℕ) → i < n → j < n → within d n i j ≡ cell d i j
unfolding within
within_is d n i j a b = cond_yes (ltb i n && ltb j n) (cell d i j) 0 (and_T (ltb i n) (ltb j n) (lt→ltb i n a) (lt→ltb j n b))

pub within_none : (d : List ℕ) (n i j : ℕ) → (n ≤ i) ⊎ (n ≤ j) → within d n i j ≡ 0
unfolding within
within_none d n i j o =
    cond_no (ltb i n && ltb j n) (cell d i j) 0
    (not_T (ltb i n && ltb j n)
    (λ h. let a = ltb→lt i n (T-left (ltb i n) (ltb j n) h) in
    let b = ltb→lt j n (T-right (ltb i n) (ltb j n) h) in
    ⊎_elim (λ p. omega arith) (λ p. omega arith) o))
