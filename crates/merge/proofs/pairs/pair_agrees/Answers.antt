-- `pair_agrees` meets its contract: the test `agreeing` step by step; the pairs before decide last. Assumes nothing.
use Rattle.lists.proofs.Scans.{test_passes, test_fails}
use Rattle.merge.proofs.SourceLaws.{pair_first, pair_second, pair_setting, pair_by}
use Rattle.std.proofs.lemmas.Bool.{not_from_false, not_from_true}
use Rattle.merge.proofs.pairs.pair_agrees.Goals as goal

pub returns-then-not-is_tide : goal.returns-then-not-is_tide
returns-then-not-is_tide c = pair_first _ _ _ _ _ (test_fails c.is_tide.ensures (not_from_false _ c.if-not-is_tide.true))

pub returns-then-not-is_tide-2 : goal.returns-then-not-is_tide-2
returns-then-not-is_tide-2 c = pair_second _ _ _ _ _ (test_fails c.is_tide-2.ensures (not_from_false _ c.if-not-is_tide-2.true))

pub returns-then-x-y : goal.returns-then-x-y
returns-then-x-y c =
    pair_setting _ _ _ _ _ c.tide_of.ensures c.tide_of-2.ensures c.setting-x.ensures
    c.setting-y.ensures c.if-x-y.true

pub returns : goal.returns
returns c =
    pair_by _ _ _ _ _ c.tide_of.ensures c.tide_of-2.ensures c.setting-x.ensures c.setting-y.ensures
    (test_passes c.is_tide.ensures (not_from_true _ c.if-not-is_tide.false))
    (test_passes c.is_tide-2.ensures (not_from_true _ c.if-not-is_tide-2.false)) c.if-x-y.false c.all_consistent.ensures
