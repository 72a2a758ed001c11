-- `read_open` meets its contract: no number stops; with k, what Open answers. Assumes nothing.
use Rattle.lists.proofs.Results.{handed_on}
use Rattle.validity.specs.Memory.{state_of}
use Rattle.validity.proofs.LayoutLaws.{short_no}
use Rattle.study_text.proofs.CallLaws.{open_stops, open_goes}
use Rattle.study_text.proofs.calls.read_open.Goals as goal

pub returns-in_err-k : goal.returns-in_err-k
returns-in_err-k c = open_stops _ _ (handed_on c.from_residual.ensures.1) c.in_err-k.ensures

pub returns : goal.returns
returns c =
    let long = short_no _ c.requires.table_size_in_bounds.0 c.requires.table_size_in_bounds.1 in
    open_goes _ _ (state_of c.args.dataset.now c.args.distances.now c.args.settings.now) c.open-answer.result c.requires.cursor_within
    c.in_ok-k.ensures long c.narrow.ensures (c.open-answer.ensures.answer, c.open-answer.ensures.leaves) c.at_line.ensures
