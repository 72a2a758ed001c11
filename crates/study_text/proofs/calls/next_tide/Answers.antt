-- `next_tide` meets its contract: a tide, the end, or no number. Assumes nothing.
use mathlib.Core.Path.{sym, ap, ◌∙◌}
use Rattle.std.specs.Prelude.{Ok}
use Rattle.lists.proofs.Results.{handed_on}
use Rattle.text_words.proofs.WordLaws.{next_within}
use Rattle.study_text.proofs.Turns.{turn_stops, turn_tide_stops, turn_goes, turn_ends}
use Rattle.study_text.proofs.calls.next_tide.Goals as goal

pub returns-in_err-word : goal.returns-in_err-word
returns-in_err-word c = turn_stops _ _ c.from_residual.ensures.1 c.in_err-word.ensures

pub read_tide-requires : goal.read_tide-requires
read_tide-requires c =
    record { held = c.requires.held; within = next_within c.requires.within (sym c.in_ok-word.ensures ∙ ap Ok c.in-Number.is) }

pub returns-in_err-read_tide-in-Number : goal.returns-in_err-read_tide-in-Number
returns-in_err-read_tide-in-Number c =
    turn_tide_stops _ _ (handed_on c.from_residual-in_err-read_tide-in-Number.ensures.1) (sym (ap Ok c.in-Number.is) ∙ c.in_ok-word.ensures)
    c.in_err-read_tide-in-Number.ensures

pub returns-in_ok-read_tide-in-Number : goal.returns-in_ok-read_tide-in-Number
returns-in_ok-read_tide-in-Number c = turn_goes _ _ (sym (ap Ok c.in-Number.is) ∙ c.in_ok-word.ensures) c.in_ok-read_tide-in-Number.ensures

pub returns-in-End : goal.returns-in-End
returns-in-End c = turn_ends c.requires (sym (ap Ok c.in-End.is) ∙ c.in_ok-word.ensures)
