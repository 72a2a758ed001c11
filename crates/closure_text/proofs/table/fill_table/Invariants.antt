-- `fill_table` meets its contract. The loop's invariant: the places passed so far hold the distances, the rest is as before.
-- Assumes nothing.
use Prim.Native.Nat.{◌/◌, ◌%◌}
use mathlib.Core.Path.{◌≡◌}
use lib.ListN.{length}
use Rattle.lists.specs.Lists.{overwrite}
use Rattle.closure_text.specs.Rows.{lower_cell}
use Rattle.closure_text.proofs.table.fill_table.Given as goal

abbrev pub invariant-loop-p : goal.invariant-loop-p
invariant-loop-p l =
    (l.table ≡ overwrite l.p (λ p. lower_cell l.distances (p / l.n) (p % l.n)) l.initial.table) × (length l.table ≡ length l.initial.table)
