-- `put_part` meets its contract: the byte as the law of one step has it. Assumes nothing.
use Rattle.file_fields.proofs.WritingLaws.{part_put}
use Rattle.file_fields.proofs.writing.put_part.Goals as goal

pub returns : goal.returns
returns c = part_put c.requires c.kept-old.ensures.0
