-- `in_range` meets its contract: the rows passed so far are in range. Assumes nothing.
use mathlib.Core.Path.{sym}
use Rattle.lists.proofs.Scans.{every_none, every_more, every_fails, test_passes, test_fails}
use Rattle.merge.proofs.RowLaws.{row_tested}
use Rattle.std.proofs.lemmas.Bool.{not_from_false, not_from_true}
use Rattle.merge.proofs.table.in_range.Goals as goal

pub loop-r-init : goal.loop-r-init
loop-r-init c = every_none _

pub returns-then-not-row_in_range : goal.returns-then-not-row_in_range
returns-then-not-row_in_range c =
    let row = row_tested c.args.sources.now.first.dataset.n c.row_in_range.ensures (rw c.from.ensures at c.cross_row-row.ensures) in
    sym (every_fails _ _ _ c.loop-r-test.true (test_fails row (not_from_false _ c.if-not-row_in_range.true)))

pub loop-r-preserved : goal.loop-r-preserved
loop-r-preserved c =
    let row = row_tested c.args.sources.now.first.dataset.n c.row_in_range.ensures (rw c.from.ensures at c.cross_row-row.ensures) in
    every_more _ _ c.loop-r.invariant (test_passes row (not_from_true _ c.if-not-row_in_range.false))
