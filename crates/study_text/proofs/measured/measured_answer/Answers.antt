-- `measured_answer` meets its contract: the ladder of reasons, by the tests that led to each way out. Assumes nothing.
use native.Mathlib.Omega.{arith}
use borrow.Author.Tests.{le-leb, lt-leb, eq-eqb, ne_eqb}
use Rattle.lists.proofs.Scans.{between_in, between_low, between_high, test_passes, test_fails}
use Rattle.study_text.proofs.MeasuredLaws.{measured_ladder, measured_far, measured_near}
use Rattle.std.proofs.lemmas.Bool.{not_from_false, not_from_true}
use Rattle.study_text.proofs.measured.measured_answer.Goals as goal

pub returns-then-n-ge-MAX_TIDES : goal.returns-then-n-ge-MAX_TIDES
returns-then-n-ge-MAX_TIDES c = rw (measured_ladder _ _ _, le-leb _ _ c.if-n-ge-MAX_TIDES.true)

pub returns-then-row-n : goal.returns-then-row-n
returns-then-row-n c = rw (measured_ladder _ _ _, lt-leb _ _ c.if-n-ge-MAX_TIDES.false, ne_eqb _ _ c.if-row-n.true)

pub returns-then-setting-lt1 : goal.returns-then-setting-lt1
returns-then-setting-lt1 c =
    rw (measured_ladder _ _ _, lt-leb _ _ c.if-n-ge-MAX_TIDES.false, eq-eqb _ _ c.if-row-n.false, between_low 1 _ _ c.if-setting-lt1.true)

pub returns-then-from-setting : goal.returns-then-from-setting
returns-then-from-setting c =
    rw (
      measured_ladder _ _ _,
      lt-leb _ _ c.if-n-ge-MAX_TIDES.false,
      eq-eqb _ _ c.if-row-n.false,
      between_high 1 c.args.view.dataset.k c.args.setting (omega (arith, c.from.ensures)),
    )

-- past 22, 4 and 5 the distances decide
pub returns-then-not-row_in_range : goal.returns-then-not-row_in_range
returns-then-not-row_in_range c =
    let setting = between_in 1 c.args.view.dataset.k c.args.setting c.if-setting-lt1.false (omega (arith, c.from.ensures)) in
    measured_far _ _ _ c.if-n-ge-MAX_TIDES.false c.if-row-n.false setting (test_fails c.row_in_range.ensures (not_from_false _ c.if-not-row_in_range.true))

pub returns : goal.returns
returns c =
    let setting = between_in 1 c.args.view.dataset.k c.args.setting c.if-setting-lt1.false (omega (arith, c.from.ensures)) in
    measured_near _ _ _ c.if-n-ge-MAX_TIDES.false c.if-row-n.false setting (test_passes c.row_in_range.ensures (not_from_true _ c.if-not-row_in_range.false))
