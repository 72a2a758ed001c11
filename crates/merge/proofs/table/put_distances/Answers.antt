-- `put_distances` meets its contract: the rows of the first r remaining tides are added to the first table; m - r falls. Assumes nothing.
use native.Mathlib.Omega.{arith}
use mathlib.Core.Path.{ap, ◌∙◌}
use lib.ListN.{length}
use Rattle.storage.specs.Places.{with_row}
use Rattle.merge.proofs.RowLaws.{stepped_none, stepped_more, stepped_done}
use Rattle.storage.proofs.PlaceLaws.{front_copied}
use Rattle.merge.proofs.table.put_distances.Goals as goal

pub loop-r-init : goal.loop-r-init
loop-r-init c = stepped_none

pub loop-r-preserved : goal.loop-r-preserved
loop-r-preserved c =
    let row = c.put_row.ensures ∙ ap (λ z. with_row z (length z) c.loop-r.d3) c.added_row-row.ensures in
    stepped_more c.loop-r.invariant c.loop-r-test.true row (omega arith)

pub returns : goal.returns
returns c =
    let n = c.requires.tables.first_long in
    stepped_done c.loop-r.invariant c.loop-r-test.false (c.copy_front.ensures ∙ front_copied _ _ _ n)
