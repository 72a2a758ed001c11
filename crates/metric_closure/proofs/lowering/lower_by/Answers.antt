-- `lower_by` meets its contract: the line holds row m, the rows passed so far are lowered by it, the rest is as before. Assumes nothing.
use mathlib.Core.Path.{refl}
use Rattle.metric_closure.proofs.TableLaws.{line_of, row_lowered, lowered_none, lowered_more, lowered_fits}
use Rattle.metric_closure.proofs.lowering.lower_by.Goals as goal

pub loop-i-init : goal.loop-i-init
loop-i-init c =
    let starts = c.row_start-own.ensures.0 in
    (line_of _ _ c.args.table.now c.requires.fits c.requires.m_lt_n _ _ starts _ refl c.copy_from_slice.ensures.after, lowered_none)

pub loop-i-preserved : goal.loop-i-preserved
loop-i-preserved c =
    let pre = c.requires in
    let inv = c.loop-i.invariant in
    let row =
    row_lowered _ c.args.m _ _ c.loop-i.table (lowered_fits inv.1 pre.fits) c.loop-i-test.true _ _ _ c.row_start-start.ensures.0 refl refl
    c.lower_row.ensures in
    (inv.0, lowered_more inv.0 pre.m_lt_n inv.1 row)
