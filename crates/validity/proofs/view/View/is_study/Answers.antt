-- `is_study` meets its contract: the tests of `is_study` one by one; the first that fails decides, or the last. Assumes nothing.
use mathlib.Core.Path.{◌∙◌}
use borrow.Author.Tests.{lt-leb}
use Rattle.lists.proofs.Scans.{between_in, between_low, between_high, test_passes, test_fails}
use Rattle.validity.proofs.ValidityLaws.{no_study, rows_decide}
use Rattle.std.proofs.lemmas.Bool.{not_from_false, not_from_true}
use Rattle.validity.proofs.view.View.is_study.Goals as goal

pub returns-then-k-lt1 : goal.returns-then-k-lt1
returns-then-k-lt1 c = no_study _ 0 (between_low 1 8 _ c.if-k-lt1.true)

pub returns-then-k-gt-MAX_K : goal.returns-then-k-gt-MAX_K
returns-then-k-gt-MAX_K c = no_study _ 0 (between_high 1 8 _ c.if-k-gt-MAX_K.true)

pub returns-then-n-gt-MAX_TIDES : goal.returns-then-n-gt-MAX_TIDES
returns-then-n-gt-MAX_TIDES c = no_study _ 1 (lt-leb _ _ c.if-n-gt-MAX_TIDES.true)

pub returns-then-not-valid_minima : goal.returns-then-not-valid_minima
returns-then-not-valid_minima c = no_study _ 2 (test_fails c.valid_minima.ensures (not_from_false _ c.if-not-valid_minima.true))

pub returns-then-not-valid_settings : goal.returns-then-not-valid_settings
returns-then-not-valid_settings c = no_study _ 3 (test_fails c.valid_settings.ensures (not_from_false _ c.if-not-valid_settings.true))

pub returns-then-not-valid_distances : goal.returns-then-not-valid_distances
returns-then-not-valid_distances c = no_study _ 4 (test_fails c.valid_distances.ensures (not_from_false _ c.if-not-valid_distances.true))

pub returns : goal.returns
returns c =
    c.valid_rows.ensures
    ∙ rows_decide _ (between_in 1 8 _ c.if-k-lt1.false c.if-k-gt-MAX_K.false) c.if-n-gt-MAX_TIDES.false
    (test_passes c.valid_minima.ensures (not_from_true _ c.if-not-valid_minima.false))
    (test_passes c.valid_settings.ensures (not_from_true _ c.if-not-valid_settings.false))
    (test_passes c.valid_distances.ensures (not_from_true _ c.if-not-valid_distances.false))
