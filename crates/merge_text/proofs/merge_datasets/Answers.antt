-- `merge_datasets` meets its contract: the merge, over memory that is long enough. Assumes nothing.
use Rattle.merge_text.proofs.JoiningLaws.{merge_brings}
use Rattle.merge_text.proofs.merge_datasets.Goals as goal

pub returns : goal.returns
returns c =
    let both = c.requires.passed in
    let room = c.requires.table_size_in_bounds in
    let sources = c.args.sources.now in
    merge_brings both.0 both.1 sources.firsts.now sources.seconds.now _ room.0 room.1 c.merge.result (c.merge.ensures.answer, c.merge.ensures.leaves)
