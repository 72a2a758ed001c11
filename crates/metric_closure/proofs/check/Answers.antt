-- One law for each way out. Assumes nothing.
use native.Mathlib.Omega.{arith}
use mathlib.Core.Path.{sym, ◌∙◌}
use Rattle.lists.proofs.Scans.{test_passes, test_fails}
use Rattle.std.proofs.lemmas.Bool.{not_from_false, not_from_true}
use Rattle.metric_closure.proofs.CallLaws.{in_range_front, refused_10, refused_1, refused_6, refused_13, accepts}
use Rattle.metric_closure.proofs.check.Goals as goal

pub returns-then-n-gt-MAX_TIDES : goal.returns-then-n-gt-MAX_TIDES
returns-then-n-gt-MAX_TIDES c = refused_10 _ _ c.if-n-gt-MAX_TIDES.true

pub returns-then-table-size : goal.returns-then-table-size
returns-then-table-size c = refused_1 _ _ c.if-n-gt-MAX_TIDES.false c.if-table-size.true

pub returns-then-not-in_range : goal.returns-then-not-in_range
returns-then-not-in_range c =
    let tested = c.in_range.ensures ∙ in_range_front _ c.args.table.now (omega arith) c.if-table-size.false in
    refused_6 _ _ c.if-n-gt-MAX_TIDES.false c.if-table-size.false (test_fails tested (not_from_false _ c.if-not-in_range.true))

pub returns-then-not-is_symmetric : goal.returns-then-not-is_symmetric
returns-then-not-is_symmetric c =
    let tested = c.in_range.ensures ∙ in_range_front _ c.args.table.now (omega arith) c.if-table-size.false in
    refused_13 _ _ c.if-n-gt-MAX_TIDES.false c.if-table-size.false (test_passes tested (not_from_true _ c.if-not-in_range.false))
    (test_fails c.is_symmetric.ensures (not_from_false _ c.if-not-is_symmetric.true))

pub returns : goal.returns
returns c =
    let tested = c.in_range.ensures ∙ in_range_front _ c.args.table.now (omega arith) c.if-table-size.false in
    sym (accepts _ _ c.if-n-gt-MAX_TIDES.false c.if-table-size.false (test_passes tested (not_from_true _ c.if-not-in_range.false))
    (test_passes c.is_symmetric.ensures (not_from_true _ c.if-not-is_symmetric.false)))
