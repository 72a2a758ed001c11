-- `put_rest` meets its contract. The loop's invariant: the first i numbers are put, of at most seven digits and a blank each.
-- Assumes nothing.
use Prim.Native.Nat.{◌+◌, ◌*◌, ◌≤◌}
use mathlib.Core.List.{flat_map}
use lib.ListN.{take}
use Rattle.sheet_text.specs.Text.{spaced}
use Rattle.sheet_text.specs.Putting.{PutText}
use Rattle.closure_text.proofs.lines.put_rest.Given as goal

abbrev pub invariant-loop-i : goal.invariant-loop-i
invariant-loop-i l = (l.end ≤ l.at + 8 * l.i) × PutText l.initial.out l.at (flat_map spaced (take l.i l.rest)) l.end l.out
