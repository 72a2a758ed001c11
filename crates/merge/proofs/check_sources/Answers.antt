-- `check_sources` meets its contract: one law for each way out. Assumes nothing.
use Rattle.lists.proofs.Scans.{test_passes, test_fails}
use Rattle.validity.proofs.LayoutLaws.{short_test}
use Rattle.merge.proofs.AnswerLaws.{sources_1, sources_1_second, sources_21, sources_21_second, sources_done}
use Rattle.std.proofs.lemmas.Bool.{not_from_false, not_from_true}
use Rattle.merge.proofs.check_sources.Goals as goal

pub returns-then-is_short : goal.returns-then-is_short
returns-then-is_short c = sources_1 _ _ (short_test _ c.is_short.ensures.short c.if-is_short.true)

pub returns-then-is_short-2 : goal.returns-then-is_short-2
returns-then-is_short-2 c =
    sources_1_second _ _ (short_test _ c.is_short.ensures.short c.if-is_short.false) (short_test _ c.is_short-2.ensures.short c.if-is_short-2.true)

pub returns-then-not-is_dataset : goal.returns-then-not-is_dataset
returns-then-not-is_dataset c =
    sources_21 _ _ (short_test _ c.is_short.ensures.short c.if-is_short.false) (short_test _ c.is_short-2.ensures.short c.if-is_short-2.false)
    (test_fails c.is_dataset.ensures (not_from_false _ c.if-not-is_dataset.true))

pub returns-then-not-is_dataset-2 : goal.returns-then-not-is_dataset-2
returns-then-not-is_dataset-2 c =
    sources_21_second _ _ (short_test _ c.is_short.ensures.short c.if-is_short.false)
    (short_test _ c.is_short-2.ensures.short c.if-is_short-2.false)
    (test_passes c.is_dataset.ensures (not_from_true _ c.if-not-is_dataset.false))
    (test_fails c.is_dataset-2.ensures (not_from_false _ c.if-not-is_dataset-2.true))

pub returns : goal.returns
returns c =
    sources_done _ _ (short_test _ c.is_short.ensures.short c.if-is_short.false) (short_test _ c.is_short-2.ensures.short c.if-is_short-2.false)
    (test_passes c.is_dataset.ensures (not_from_true _ c.if-not-is_dataset.false))
    (test_passes c.is_dataset-2.ensures (not_from_true _ c.if-not-is_dataset-2.false))
