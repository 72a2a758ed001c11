-- `put_counts` meets its contract: the counts passed so far are put, of at most five digits and a blank each. Assumes nothing.
use Prim.Native.Nat.{◌+◌, ◌*◌, ◌≤◌}
use mathlib.Core.List.{flat_map}
use lib.ListN.{take}
use Rattle.sheet_text.specs.Text.{spaced}
use Rattle.sheet_text.specs.Putting.{PutText}
use Rattle.sheet_text.proofs.lines.put_counts.Given as goal

abbrev pub invariant-loop-count : goal.invariant-loop-count
invariant-loop-count l =
    (l.end ≤ l.at + 6 * l.count-index) × PutText l.initial.out l.at (flat_map spaced (take l.count-index l.fn.counts)) l.end l.out
