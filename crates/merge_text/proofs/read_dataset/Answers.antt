-- `read_dataset` meets its contract: Read, over memory that is long enough. Assumes nothing.
use Rattle.merge_text.proofs.JoiningLaws.{read_brings}
use Rattle.merge_text.proofs.read_dataset.Goals as goal

pub returns : goal.returns
returns c = read_brings c.args.file.now _ c.requires.0 c.requires.1 c.read.result (c.read.ensures.answer, c.read.ensures.leaves)
