-- `put_study` meets its contract: the comment, k and the minima, the tides. Assumes nothing.
use Rattle.closure_text.proofs.ClosedLaws.{study_put}
use Rattle.closure_text.proofs.put_study.Goals as goal

pub returns : goal.returns
returns c =
    let a = c.args in
    study_put a.pairs a.dataset a.settings.now a.table.now c.put_lowered-after_comment.ensures.1 c.put_head-after_head.ensures.1
    c.put_tides.ensures
