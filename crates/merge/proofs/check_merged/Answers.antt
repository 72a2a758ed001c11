-- `check_merged` meets its contract: one law for each way out. Assumes nothing.
use native.Mathlib.Omega.{arith}
use Rattle.lists.proofs.Scans.{test_passes, test_fails}
use Rattle.merge.proofs.RestLaws.{rest_few}
use Rattle.merge.proofs.TableLaws.{paired_tables}
use Rattle.merge.proofs.AnswerLaws.{merge_22, merge_6, merge_26, merge_done}
use Rattle.std.proofs.lemmas.Bool.{not_from_false, not_from_true}
use Rattle.merge.proofs.check_merged.Goals as goal

pub overflow_add-first : goal.overflow_add-first
overflow_add-first c =
    let named = c.requires.paired.named in
    omega (arith, rest_few c.find_rest-rest.ensures, named.first.study.few, named.second.study.few)

pub returns-then-first-rest-gt-MAX_TIDES : goal.returns-then-first-rest-gt-MAX_TIDES
returns-then-first-rest-gt-MAX_TIDES c =
    merge_22 _ _ _ _ c.requires c.find_rest-rest.ensures c.if-first-rest-gt-MAX_TIDES.true

pub in_range-requires-clause-tables : goal.in_range-requires-clause-tables
in_range-requires-clause-tables c =
    paired_tables c.requires.paired

pub returns-then-not-in_range : goal.returns-then-not-in_range
returns-then-not-in_range c =
    merge_6 _ _ _ _ c.requires c.find_rest-rest.ensures c.if-first-rest-gt-MAX_TIDES.false c.in_range.ensures c.if-not-in_range.true

pub returns-then-not-counts_fit : goal.returns-then-not-counts_fit
returns-then-not-counts_fit c =
    merge_26 _ _ _ _ c.requires c.find_rest-rest.ensures c.if-first-rest-gt-MAX_TIDES.false c.in_range.ensures c.if-not-in_range.false
    (test_fails c.counts_fit.ensures (not_from_false _ c.if-not-counts_fit.true))

pub returns : goal.returns
returns c =
    merge_done _ _ _ _ c.requires c.find_rest-rest.ensures c.if-first-rest-gt-MAX_TIDES.false c.in_range.ensures c.if-not-in_range.false
    (test_passes c.counts_fit.ensures (not_from_true _ c.if-not-counts_fit.false))
