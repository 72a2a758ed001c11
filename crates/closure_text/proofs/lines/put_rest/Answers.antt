-- `put_rest` meets its contract. The loop's invariant: the first i numbers are put, of at most seven digits and a blank each.
-- Assumes nothing.
use Prim.Native.Nat.{ℕ, ◌≤◌}
use native.Mathlib.Omega.{arith}
use lib.ListN.{length, get_or}
use Rattle.sheet_text.specs.Text.{decimal}
use Rattle.sheet_text.proofs.LineLaws.{spaced_none, spaced_more}
use Rattle.closure_text.proofs.LineLaws.{number_short}
use Rattle.closure_text.proofs.lines.put_rest.Goals as goal

pub loop-i-init : goal.loop-i-init
loop-i-init c = (omega arith, spaced_none c.args.rest.now (omega (arith, c.requires.room)))

pub put_number-end-requires : goal.put_number-end-requires
put_number-end-requires c =
    let number_of : ℕ = get_or (c).before.before.before.args.rest.now c.loop-i.i 0 in
    let short : length (decimal number_of) ≤ 7 = number_short number_of ((c).before.before.before.requires.near.near c.loop-i.i (omega arith)) in
    omega (arith, short, (c).before.before.before.requires.room, c.loop-i.invariant.1.same)

pub loop-i-preserved : goal.loop-i-preserved
loop-i-preserved c =
    let number_of : ℕ = get_or (c).before.before.before.args.rest.now c.loop-i.i 0 in
    let short : length (decimal number_of) ≤ 7 = number_short number_of ((c).before.before.before.requires.near.near c.loop-i.i (omega arith)) in
    let more = spaced_more _ c.loop-i.i (omega arith) c.loop-i.invariant.1 c.put_byte-after_blank.ensures c.put_number-end.ensures in
    (omega (arith, short), more)
