-- `read_row` meets its contract. The loop's invariant: the first i numbers stand in the row. Assumes nothing.
use native.Mathlib.Omega.{arith}
use lib.ListN.{length-set}
use mathlib.Core.Path.{refl}
use Rattle.lists.proofs.Results.{handed_on}
use Rattle.study_text.proofs.StepLaws.{row_none, row_more, row_stops}
use Rattle.study_text.proofs.numbers.read_row.Goals as goal

pub loop-i-init : goal.loop-i-init
loop-i-init c = (refl, row_none c.requires)

pub returns-in_err-row : goal.returns-in_err-row
returns-in_err-row c = rw (handed_on c.from_residual.ensures.1) (row_stops _ c.loop-i.invariant.1 c.in_err-row.ensures (omega arith))

pub loop-i-preserved : goal.loop-i-preserved
loop-i-preserved c = (simp length-set c.loop-i.invariant.0, row_more c.loop-i.invariant.1 c.in_ok-row.ensures (omega arith))
