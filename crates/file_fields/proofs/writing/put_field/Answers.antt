-- `put_field` meets its contract: the loop's invariant: the first bits of the value are written, `done` of them; the bits left
-- fall. Assumes nothing.
use native.Mathlib.Omega.{arith}
use Rattle.file_fields.proofs.PuttingLaws.{puts_one}
use Rattle.file_fields.proofs.WritingLaws.{field_more, field_end}
use Rattle.file_fields.proofs.writing.put_field.Goals as goal

pub loop-done-preserved : goal.loop-done-preserved
loop-done-preserved c =
    let turn = c.loop-done in
    let args = c.args in (
      omega arith,
      field_more args.width args.value turn.done c.taken-count.result (omega arith) (omega arith) turn.invariant.1
          c.put_part.ensures,
    )

pub returns : goal.returns
returns c =
    let args = c.args in
    puts_one _ _ (field_end args.width args.value c.loop-done.done (omega arith) c.loop-done.invariant.1)
