-- `put_head` meets its contract: four fields, one after the other.
use Rattle.file_fields.proofs.PuttingLaws.{head_put}
use Rattle.file_fields.proofs.writing.put_head.Goals as goal

pub returns : goal.returns
returns c =
    head_put c.args.dataset c.put_field.ensures c.put_field-2.ensures (rw c.from.ensures at c.put_field-3.ensures)
    (rw c.from-2.ensures at c.put_field-4.ensures)
