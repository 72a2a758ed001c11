-- `enter` meets its contract: what the checks answer, and what `add_tide` makes. Assumes nothing.
use Rattle.lists.proofs.Results.{handed_on}
use Rattle.access.specs.Calls.{nobody}
use Rattle.access.proofs.AccessLaws.{passed, unmoved, update_refused}
use Rattle.dataset.specs.Calls.{enters_tide}
use Rattle.dataset.proofs.AnswerLaws.{enter_accepted}
use Rattle.dataset.proofs.enter.Goals as goal

-- short memory, or no dataset
pub returns-in_err-check : goal.returns-in_err-check
unfolding enters_tide
returns-in_err-check c =
    let told = update_refused _ _ (handed_on c.from_residual.ensures.1) c.in_err-check.ensures in
    record { answer = told.0; leaves = told.1 }

pub enter_answer-requires : goal.enter_answer-requires
enter_answer-requires c = passed _ nobody c.in_ok-check.was c.check.ensures

-- a reason of its own
pub returns-in_err-enter_answer-clause-leaves : goal.returns-in_err-enter_answer-clause-leaves
returns-in_err-enter_answer-clause-leaves c = unmoved _ _ c.in_err-enter_answer.ensures

pub add_tide-requires : goal.add_tide-requires
add_tide-requires c = enter_accepted _ _ _ c.in_ok-enter_answer.was c.enter_answer.ensures
