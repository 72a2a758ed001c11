-- `merge` meets its contract, both clauses at each exit. Assumes nothing.
use Rattle.std.proofs.Common.{sym, ap, ◌∙◌}
use Rattle.study.specs.Refusals.{verdict_of}
use Rattle.lists.proofs.Results.{handed_on}
use Rattle.validity.proofs.LayoutLaws.{short_test}
use Rattle.merge.proofs.AnswerLaws.{third_1, merge_stays, merge_answers, merge_accepted}
use Rattle.merge.proofs.merge.Goals as goal

-- the third's memory is too short
pub returns-then-is_short : goal.returns-then-is_short
returns-then-is_short c =
    let told = third_1 _ _ _ _ _ (short_test _ c.is_short.ensures.short c.if-is_short.true) in
    record { answer = told.0; leaves = told.1 }

-- another reason
pub returns-in_err-merge_answer : goal.returns-in_err-merge_answer
returns-in_err-merge_answer c =
    let fits = short_test _ c.is_short.ensures.short c.if-is_short.false in
    let told = merge_stays _ _ _ _ _ fits (handed_on c.from_residual.ensures.1) c.in_err-merge_answer.ensures in
    record { answer = told.0; leaves = told.1 }

pub put_merged-requires : goal.put_merged-requires
put_merged-requires c =
    let fits = short_test _ c.is_short.ensures.short c.if-is_short.false in
    merge_accepted _ _ _ _ _ fits c.in_ok-merge_answer.was c.merge_answer.ensures

-- merged
pub returns-clause-answer : goal.returns-clause-answer
returns-clause-answer c =
    let fits = short_test _ c.is_short.ensures.short c.if-is_short.false in
    merge_answers _ _ _ _ _ fits (sym (ap verdict_of c.in_ok-merge_answer.was) ∙ c.merge_answer.ensures)
