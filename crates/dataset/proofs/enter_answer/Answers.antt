-- `enter_answer` meets its contract: which of Enter's own reasons holds. Assumes nothing.
use Rattle.std.proofs.lemmas.Bool.{not_from_false, not_from_true}
use Rattle.lists.proofs.Scans.{between_in, between_low, between_high, test_passes, test_fails}
use Rattle.dataset.proofs.AnswerLaws.{enter_22, enter_4, enter_5, enter_6, enter_7, enter_15}
use Rattle.dataset.proofs.enter_answer.Goals as goal

-- no room for a tide
pub returns-then-n-ge-MAX_TIDES : goal.returns-then-n-ge-MAX_TIDES
returns-then-n-ge-MAX_TIDES c = enter_22 _ _ _ c.requires c.if-n-ge-MAX_TIDES.true

-- the row's length
pub returns-then-row-n : goal.returns-then-row-n
returns-then-row-n c = enter_4 _ _ _ c.requires c.if-n-ge-MAX_TIDES.false c.if-row-n.true

-- the setting
pub returns-then-setting-lt1 : goal.returns-then-setting-lt1
returns-then-setting-lt1 c =
    enter_5 _ _ _ c.requires c.if-n-ge-MAX_TIDES.false c.if-row-n.false (between_low 1 _ _ c.if-setting-lt1.true)

pub returns-then-k-setting : goal.returns-then-k-setting
returns-then-k-setting c =
    enter_5 _ _ _ c.requires c.if-n-ge-MAX_TIDES.false c.if-row-n.false (between_high 1 _ _ c.if-k-setting.true)

-- a distance
pub returns-then-not-row_in_range : goal.returns-then-not-row_in_range
returns-then-not-row_in_range c =
    let setting = between_in 1 _ _ c.if-setting-lt1.false c.if-k-setting.false in
    enter_6 _ _ _ c.requires c.if-n-ge-MAX_TIDES.false c.if-row-n.false setting
    (test_fails c.row_in_range.ensures (not_from_false _ c.if-not-row_in_range.true))

-- the first pair that violates the triangle inequality
pub returns-in-Some : goal.returns-in-Some
returns-in-Some c = enter_7 _ _ _ (record {
  passed = c.requires;
  room = c.if-n-ge-MAX_TIDES.false;
  long = c.if-row-n.false;
  kind = between_in 1 _ _ c.if-setting-lt1.false c.if-k-setting.false;
  row_fits = test_passes c.row_in_range.ensures (not_from_true _ c.if-not-row_in_range.false);
}) c.first_violation.ensures _ _ c.in-Some.is

-- a duplicate, or none
pub returns : goal.returns
returns c = enter_15 _ _ _ (record {
  passed = c.requires;
  room = c.if-n-ge-MAX_TIDES.false;
  long = c.if-row-n.false;
  kind = between_in 1 _ _ c.if-setting-lt1.false c.if-k-setting.false;
  row_fits = test_passes c.row_in_range.ensures (not_from_true _ c.if-not-row_in_range.false);
}) c.first_violation.ensures c.in_default.is c.check_duplicate.ensures
