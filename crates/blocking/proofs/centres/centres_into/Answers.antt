-- A refused call leaves the lists, an accepted one what `fill_lists` ensures. Assumes nothing.
use Rattle.lists.proofs.Results.{handed_on}
use Rattle.blocking.proofs.CentresLaws.{centres_refused, centres_accepted, centres_reply}
use Rattle.blocking.proofs.centres.centres_into.Goals as goal

pub returns-in_err-centres_answer-clause-answer : goal.returns-in_err-centres_answer-clause-answer
returns-in_err-centres_answer-clause-answer c =
    (centres_refused _ _ _ (handed_on c.from_residual.ensures.1) (c.in_err-centres_answer.ensures _)).0

pub returns-in_err-centres_answer-clause-lists : goal.returns-in_err-centres_answer-clause-lists
returns-in_err-centres_answer-clause-lists c =
    (centres_refused _ _ _ (handed_on c.from_residual.ensures.1) (c.in_err-centres_answer.ensures _)).1

pub fill_lists-requires : goal.fill_lists-requires
fill_lists-requires c = centres_accepted _ _ c.in_ok-centres_answer.was c.centres_answer.ensures

pub returns-clause-answer : goal.returns-clause-answer
returns-clause-answer c =
    centres_reply _ _ _ (centres_accepted _ _ c.in_ok-centres_answer.was c.centres_answer.ensures) c.fill_lists.ensures.value
