-- `take_tide` meets its contract: Enter with the setting as a byte, or what `measure` ensures. Assumes nothing.
use Rattle.study_text.proofs.ReachedLaws.{held_as, took_as}
use Rattle.study_text.proofs.CallLaws.{enter_took}
use Rattle.study_text.proofs.calls.take_tide.Goals as goal

pub returns-in-Entered : goal.returns-in-Entered
returns-in-Entered c =
    let rule = c.in-Entered.is in
    took_as rule (enter_took c.enter.result (held_as rule _ c.requires) c.narrow.ensures (c.enter.ensures.answer, c.enter.ensures.leaves))
