-- `merge_answer` meets its contract: one law for each way out. Assumes nothing.
use mathlib.Core.Path.{sym, ◌∙◌}
use Rattle.lists.proofs.Scans.{test_passes, test_fails}
use Rattle.lists.proofs.Results.{handed_on}
use Rattle.merge.proofs.AnswerLaws.{checked, merge_refused_lem, merge_17, merge_16, agreed}
use Rattle.std.proofs.lemmas.Bool.{not_from_false, not_from_true}
use Rattle.merge.proofs.merge_answer.Goals as goal

pub returns-in_err-check_sources : goal.returns-in_err-check_sources
returns-in_err-check_sources c = merge_refused_lem _ _ _ _ (handed_on c.from_residual.ensures.1) c.in_err-check_sources.ensures

pub returns-then-names_none : goal.returns-then-names_none
returns-then-names_none c =
    merge_17 _ _ _ _ (checked _ _ c.in_ok-check_sources.was c.check_sources.ensures) c.names_none.ensures
    c.if-names_none.true

pub agree-requires : goal.agree-requires
agree-requires c =
    let passed = checked _ _ c.in_ok-check_sources.was c.check_sources.ensures in
    (passed.first, passed.second)

pub returns-then-not-agree : goal.returns-then-not-agree
returns-then-not-agree c =
    merge_16 _ _ _ _ (checked _ _ c.in_ok-check_sources.was c.check_sources.ensures)
    (sym c.names_none.ensures ∙ c.if-names_none.false) (test_fails c.agree.ensures (not_from_false _ c.if-not-agree.true))

pub check_merged-requires : goal.check_merged-requires
check_merged-requires c =
    agreed _ _ _ _ (checked _ _ c.in_ok-check_sources.was c.check_sources.ensures)
    (sym c.names_none.ensures ∙ c.if-names_none.false) (test_passes c.agree.ensures (not_from_true _ c.if-not-agree.false))
