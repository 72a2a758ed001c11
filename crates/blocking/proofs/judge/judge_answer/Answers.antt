-- One law for each way out. Assumes nothing.
use mathlib.Core.Path.{refl, sym, ap, ◌∙◌}
use Rattle.lists.proofs.Results.{handed_on}
use Rattle.study.specs.Refusals.{verdict_of}
use Rattle.study.specs.Calls.{judge_reasons}
use Rattle.access.proofs.AccessLaws.{inquiry_answer}
use Rattle.blocking.specs.Calls.{judges_list}
use Rattle.blocking.proofs.JudgeLaws.{judge_12, judge_done}
use Rattle.blocking.proofs.judge.judge_answer.Goals as goal

pub returns-in_err-check_tides : goal.returns-in_err-check_tides
unfolding judges_list judge_reasons
returns-in_err-check_tides c =
    ap verdict_of (handed_on c.from_residual.ensures.1) ∙ c.in_err-check_tides.ensures.refuses _ refl _ ∙ sym (inquiry_answer _ _)

pub returns-then-list-view : goal.returns-then-list-view
returns-then-list-view c = judge_12 _ _ c.check_tides.ensures c.in_ok-check_tides.was c.if-list-view.true

pub returns : goal.returns
returns c = judge_done _ _ c.check_tides.ensures c.in_ok-check_tides.was c.if-list-view.false
