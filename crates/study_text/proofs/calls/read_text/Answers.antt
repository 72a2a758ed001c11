-- `read_text` meets its contract: Open, Minima, then the tides. Assumes nothing.
use mathlib.Core.Path.{refl, ◌∙◌}
use Rattle.lists.proofs.Results.{handed_on}
use Rattle.study_text.proofs.Turns.{head_stops, head_goes, text_begins, text_stops, finish_stops, finish_ends}
use Rattle.study_text.proofs.calls.read_text.Goals as goal

pub returns-in_err-read_open : goal.returns-in_err-read_open
returns-in_err-read_open c =
    finish_stops (handed_on c.from_residual.ensures.1)
    (text_stops c.args.rule c.args.text.now (head_stops c.args.text.now (c.in_err-read_open.ensures.stops refl)))

pub read_minima-requires : goal.read_minima-requires
read_minima-requires c = (c.in_ok-read_open.ensures.goes refl).0

pub returns-in_err-read_minima : goal.returns-in_err-read_minima
returns-in_err-read_minima c =
    let opened = (c.in_ok-read_open.ensures.goes refl).1 in
    finish_stops (handed_on c.from_residual-in_err-read_minima.ensures.1)
    (text_stops c.args.rule c.args.text.now (head_goes c.args.text.now opened ∙ c.in_err-read_minima.ensures.stops refl))

pub read_tides-requires : goal.read_tides-requires
read_tides-requires c =
    let opened = (c.in_ok-read_open.ensures.goes refl).1 in
    let begun = c.in_ok-read_minima.ensures.goes refl in
    text_begins c.args.rule c.args.text.now begun.0 (head_goes c.args.text.now opened ∙ begun.1)

pub returns-in_err-line : goal.returns-in_err-line
returns-in_err-line c = finish_stops (handed_on c.from_residual-in_err-line.ensures.1) (c.in_err-line.ensures.stops refl)

pub returns : goal.returns
returns c = finish_ends c.in_ok-line.ensures
