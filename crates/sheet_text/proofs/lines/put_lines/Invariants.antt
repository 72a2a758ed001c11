-- `put_lines` meets its contract: the lines of the blocks passed so far are put, of at most 23 bytes each. Assumes nothing.
use Prim.Native.Nat.{◌+◌, ◌*◌, ◌≤◌}
use lib.ListN.{take}
use Rattle.sheet_text.specs.Text.{lines}
use Rattle.sheet_text.specs.Putting.{PutText}
use Rattle.sheet_text.proofs.lines.put_lines.Given as goal

abbrev pub invariant-loop-i : goal.invariant-loop-i
invariant-loop-i l = (l.end ≤ l.at + 23 * l.i) × PutText l.initial.out l.at (lines 1 (take l.i l.shown)) l.end l.out
