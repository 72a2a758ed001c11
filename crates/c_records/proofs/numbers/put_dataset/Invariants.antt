-- The loop's invariant: the first i places hold their numbers, the rest stays, and no place is added. Assumes nothing.
use Prim.Native.Nat.{ℕ, ◌-◌, ◌≤◌}
use mathlib.Core.Path.{◌≡◌}
use lib.ListN.{length, get_or}
use Rattle.lists.specs.Lists.{overwrite}
use Rattle.c_records.specs.Record.{record_size, numbers_of}
use Rattle.c_records.proofs.numbers.put_dataset.Given as goal

abbrev pub invariant-loop-i : goal.invariant-loop-i
invariant-loop-i l =
    (l.numbers ≡ overwrite l.i (λ (j : ℕ). get_or (numbers_of l.dataset) j 0) l.initial.numbers) ×
    (length l.numbers ≡ length l.initial.numbers)
