-- `withdraw` meets its contract: what the checks answer, and what `remove_tide` makes. Assumes nothing.
use Rattle.lists.proofs.Results.{handed_on}
use Rattle.access.specs.Calls.{the_user}
use Rattle.access.proofs.AccessLaws.{passed, known_user, unmoved, update_refused}
use Rattle.dataset.specs.Calls.{withdraws_tide}
use Rattle.dataset.proofs.AnswerLaws.{withdraw_accepted}
use Rattle.dataset.proofs.withdraw.Goals as goal

-- short memory, no user, or no dataset
pub returns-in_err-check_user : goal.returns-in_err-check_user
unfolding withdraws_tide
returns-in_err-check_user c =
    let told = update_refused _ _ (handed_on c.from_residual.ensures.1) c.in_err-check_user.ensures in
    record { answer = told.0; leaves = told.1 }

pub withdraw_answer-requires : goal.withdraw_answer-requires
withdraw_answer-requires c =
    let done = c.in_ok-check_user.was in
    (passed _ (the_user _) done c.check_user.ensures, known_user _ _ done c.check_user.ensures)

-- a reason of its own
pub returns-in_err-withdraw_answer-clause-leaves : goal.returns-in_err-withdraw_answer-clause-leaves
returns-in_err-withdraw_answer-clause-leaves c = unmoved _ _ c.in_err-withdraw_answer.ensures

pub remove_tide-requires : goal.remove_tide-requires
remove_tide-requires c = withdraw_accepted _ _ _ c.in_ok-withdraw_answer.was c.withdraw_answer.ensures
