-- `read_tide` meets its contract: too few numbers stop; with the row, what `take_tide` makes of it. Assumes nothing.
use mathlib.Core.Path.{refl, sym}
use lib.Seq.{length-take-le}
use Rattle.lists.proofs.Results.{handed_on}
use Rattle.validity.specs.Memory.{state_of}
use Rattle.study_text.proofs.ReachedLaws.{held_few}
use Rattle.study_text.proofs.CallLaws.{tide_stops, tide_goes}
use Rattle.study_text.proofs.calls.read_tide.Goals as goal

pub slice_bounds-places-end : goal.slice_bounds-places-end
slice_bounds-places-end c = held_few c.args.rule (state_of c.args.dataset.now c.args.distances.now c.args.settings.now) c.requires.held

pub slice_bounds-row-end : goal.slice_bounds-row-end
slice_bounds-row-end c =
    sym (length-take-le _ _ (held_few c.args.rule (state_of c.args.dataset.now c.args.distances.now c.args.settings.now) c.requires.held))

pub returns-in_err-read_row : goal.returns-in_err-read_row
returns-in_err-read_row c =
    let few = held_few c.args.rule (state_of c.args.dataset.now c.args.distances.now c.args.settings.now) c.requires.held in
    tide_stops c.requires c.args.setting (length-take-le _ _ few) (handed_on c.from_residual.ensures.1) c.in_err-read_row.ensures

pub returns : goal.returns
returns c =
    let few = held_few c.args.rule (state_of c.args.dataset.now c.args.distances.now c.args.settings.now) c.requires.held in
    tide_goes c.requires c.args.setting (length-take-le _ _ few) c.read_row.new.row c.in_ok-read_row.ensures refl c.take_tide-answer.ensures
    c.at_line.ensures
