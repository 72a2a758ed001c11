-- The loop's invariant: the first i bytes stand in place of zeros. Assumes nothing.
use Prim.Native.Nat.{ℕ, ◌+◌, ◌-◌, ◌≤◌}
use mathlib.Core.Path.{◌≡◌}
use lib.ListN.{get_or, replicate}
use Rattle.lists.specs.Lists.{overwrite}
use Rattle.narrowing.specs.Narrowing.{narrowed}
use Rattle.c_records.proofs.numbers.minima_bytes.Given as goal

abbrev pub invariant-loop-i : goal.invariant-loop-i
invariant-loop-i l = l.bytes ≡ overwrite l.i (λ (i : ℕ). narrowed (get_or l.numbers (2 + i) 0)) (replicate 9 0)
