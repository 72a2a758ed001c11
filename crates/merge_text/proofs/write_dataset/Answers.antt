-- `write_dataset` meets its contract: what Write replies and leaves. Assumes nothing.
use Rattle.std.proofs.Common.{refl}
use Rattle.merge_text.proofs.JoiningLaws.{write_tells}
use Rattle.merge_text.proofs.write_dataset.Goals as goal

pub returns-in-Ok : goal.returns-in-Ok
returns-in-Ok c = write_tells c.requires c.write.result c.args.file.now c.in-Ok.is refl (c.write.ensures.reply, c.write.ensures.leaves)

pub returns-in-Err : goal.returns-in-Err
returns-in-Err c = write_tells c.requires c.write.result c.args.file.now c.in-Err.is refl (c.write.ensures.reply, c.write.ensures.leaves)
