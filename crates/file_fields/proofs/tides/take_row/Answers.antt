-- `take_row` meets its contract: inside the file no field is cut off, and each adds its distance.
use Prim.Native.Nat.{◌+◌, ◌*◌}
use native.Mathlib.Omega.{arith}
use mathlib.Core.Path.{refl, ◌∙◌}
use lib.ListN.{length-set}
use Rattle.bit_reader.proofs.FieldLaws.{bits_same}
use Rattle.storage.proofs.PlaceLaws.{row_none}
use Rattle.file_fields.specs.Rows.{row_start}
use Rattle.file_fields.proofs.RowLaws.{row_taken}
use Rattle.file_fields.proofs.tides.take_row.Goals as goal

pub loop-i-init : goal.loop-i-init
loop-i-init c = record { same = refl; row = row_none _ _; long = refl; here = bits_same c.requires.here (omega arith) }

pub returns-in_default : goal.returns-in_default
returns-in_default c =
    let turn = c.loop-i in
    let read = row_start c.args.reader.now.bytes.now c.args.t + 20 * turn.i in
    let field = (rw turn.invariant.same at c.take.ensures.step read turn.invariant.here).field in
    absurd (omega (arith, c.requires.inside.inside, field.ends c.in_default.is))

pub loop-i-preserved : goal.loop-i-preserved
loop-i-preserved c =
    let turn = c.loop-i in
    let s = c.args.reader.now.bytes.now in
    let start = row_start s c.args.t in
    let step = rw turn.invariant.same at c.take.ensures.step (start + 20 * turn.i) turn.invariant.here in
    record {
      same = c.take.ensures.same ∙ turn.invariant.same;
      row = row_taken s start _ c.loop-i-test.true (step.field.got c.in-Some.is) turn.invariant.row;
      long = simp length-set turn.invariant.long;
      here = bits_same step.past (omega arith);
    }
