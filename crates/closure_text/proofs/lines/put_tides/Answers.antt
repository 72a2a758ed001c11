-- `put_tides` meets its contract. The loop's invariant: the lines of the first t tides are put, of at most 968 bytes each.
-- Assumes nothing.
use native.Mathlib.Omega.{arith}
use Rattle.closure_text.proofs.LineLaws.{tides_none, tides_more}
use Rattle.closure_text.proofs.lines.put_tides.Goals as goal

pub loop-t-init : goal.loop-t-init
loop-t-init c =
    let a = c.args in
    (omega arith, tides_none a.n a.settings.now a.table.now (omega arith))

pub loop-t-preserved : goal.loop-t-preserved
loop-t-preserved c =
    let a = c.args in
    let told = c.put_tide-end.ensures in
    (omega (arith, told.0), tides_more a.n a.settings.now a.table.now c.loop-t.t c.loop-t.invariant.1 told.1)
