-- `put_line` meets its contract: a number, those after it, a line's end. Assumes nothing.
use native.Mathlib.Omega.{arith}
use Rattle.closure_text.proofs.LineLaws.{number_short, line_put}
use Rattle.closure_text.proofs.lines.put_line.Goals as goal

pub put_number-after_first-requires : goal.put_number-after_first-requires
put_number-after_first-requires c =
    omega (arith, number_short c.args.first c.requires.0, c.requires.1.room)

pub put_rest-end-requires : goal.put_rest-end-requires
put_rest-end-requires c =
    let pre = c.requires.1 in
    let put = c.put_number-after_first.ensures in
    record { near = pre.near; room = omega (arith, number_short c.args.first c.requires.0, pre.room, put.ends, put.same) }

pub put_byte-requires : goal.put_byte-requires
put_byte-requires c =
    let first = c.put_number-after_first.ensures in
    let told = c.put_rest-end.ensures in
    omega (arith, number_short c.args.first c.requires.0, c.requires.1.room, first.ends, first.same, told.0, told.1.same)

pub returns : goal.returns
returns c =
    let first = c.put_number-after_first.ensures in
    let told = c.put_rest-end.ensures in
    let last = c.put_byte.ensures in
    let short = number_short c.args.first c.requires.0 in
    (omega (arith, first.ends, told.0, last.ends), line_put c.args.first c.args.rest.now first told.1 last)
