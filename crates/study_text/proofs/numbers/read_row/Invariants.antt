-- `read_row` meets its contract. The loop's invariant: the first i numbers stand in the row. Assumes nothing.
use lib.ListN.{length}
use mathlib.Core.Path.{◌≡◌}
use Rattle.study_text.proofs.StepLaws.{ReadTo}
use Rattle.study_text.proofs.numbers.read_row.Given as goal

abbrev pub invariant-loop-i : goal.invariant-loop-i
invariant-loop-i l = (length l.row ≡ length l.initial.row) × ReadTo l.text l.initial.cursor l.i l.row l.cursor
