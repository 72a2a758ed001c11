-- `put_line` meets its contract: four fields, of at most 23 bytes. Assumes nothing.
use Prim.Native.Nat.{ℕ, ◌≤◌}
use native.Mathlib.Omega.{arith}
use mir.Syntax.{w8, w32}
use mir.Val.{Fits}
use lib.ListN.{length}
use Rattle.study.specs.declared.BlockRecord.{BlockRecord}
use Rattle.sheet_text.specs.Text.{line}
use Rattle.sheet_text.proofs.LineLaws.{field_short, line_put, line_length, line_short}
use Rattle.sheet_text.proofs.lines.put_line.Goals as goal

-- with what is known of a record of bytes and words
short : (number : ℕ) (block : BlockRecord) → number ≤ 120 → Fits w8 block.centre × (Fits w8 block.tides × (Fits w32 block.diameter × Unit {0}))
    → length (line number block) ≤ 23
short number block few k = line_short number block (omega arith) k.0.fits k.1.0.fits k.1.1.0.fits

pub put_field-after_number-requires : goal.put_field-after_number-requires
put_field-after_number-requires c = omega (arith, field_short 2 c.args.number 32 (omega arith))

pub put_field-after_centre-requires : goal.put_field-after_centre-requires
put_field-after_centre-requires c =
    let a = c.args in
    let s = short a.number a.block (omega arith) c.struct_known-1.given in
    omega (arith, line_length a.number a.block)

pub put_field-after_tides-requires : goal.put_field-after_tides-requires
put_field-after_tides-requires c =
    let a = c.args in
    let s = short a.number a.block (omega arith) c.struct_known-2-1.given in
    omega (arith, line_length a.number a.block)

pub put_field-requires : goal.put_field-requires
put_field-requires c =
    let a = c.args in
    let s = short a.number a.block (omega arith) c.struct_known-2-1.given in
    omega (arith, line_length a.number a.block)

pub returns : goal.returns
returns c =
    let a = c.args in
    let p =
    line_put a.number a.block c.put_field-after_number.ensures c.put_field-after_centre.ensures c.put_field-after_tides.ensures
    c.put_field.ensures in
    let s = short a.number a.block (omega arith) c.struct_known-2-1.given in
    (omega (arith, p.ends), p)
