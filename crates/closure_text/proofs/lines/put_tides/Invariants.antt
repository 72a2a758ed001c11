-- `put_tides` meets its contract. The loop's invariant: the lines of the first t tides are put, of at most 968 bytes each.
-- Assumes nothing.
use Prim.Native.Nat.{◌+◌, ◌*◌, ◌≤◌}
use mathlib.Core.List.{flat_map}
use Rattle.lists.specs.Lists.{tabulate}
use Rattle.sheet_text.specs.Putting.{PutText}
use Rattle.closure_text.specs.Text.{tide_line}
use Rattle.closure_text.specs.Rows.{tide_at}
use Rattle.closure_text.proofs.lines.put_tides.Given as goal

abbrev pub invariant-loop-t : goal.invariant-loop-t
invariant-loop-t l =
    (l.end ≤ l.at + 968 * l.t) × PutText l.initial.out l.at (flat_map tide_line (tabulate l.t (tide_at l.n l.settings l.table))) l.end l.out
