-- `valid_minima` meets its contract: the tests of `valid_minima` one by one. Assumes nothing.
use mathlib.Core.Path.{◌≡◌, ◌∙◌}
use lib.ListN.{length}
use borrow.Author.Rules.{rules}
use Rattle.lists.proofs.Scans.{within_leb, beyond_leb, between_in, between_low, between_high}
use Rattle.validity.proofs.ValidityLaws.{no_minima, zeros_decide}
use Rattle.validity.proofs.valid_minima.Goals as goal

pub returns-then-b0-lt1 : goal.returns-then-b0-lt1
returns-then-b0-lt1 c = no_minima _ _ 0 (between_low 1 120 _ c.if-b0-lt1.true)

pub returns-then-b0-gt-MAX_BLOCK_MINIMUM : goal.returns-then-b0-gt-MAX_BLOCK_MINIMUM
returns-then-b0-gt-MAX_BLOCK_MINIMUM c = no_minima _ _ 0 (between_high 1 120 _ c.if-b0-gt-MAX_BLOCK_MINIMUM.true)

pub returns-then-from-sum_minima : goal.returns-then-from-sum_minima
returns-then-from-sum_minima c = no_minima _ _ 2 (beyond_leb c.sum_minima.ensures c.from.ensures c.if-from-sum_minima.true)

pub returns : goal.returns
returns c =
    let eight : length c.args.minima.b ≡ 8 = search rules in
    c.zeros_above.ensures
    ∙ zeros_decide _ _ (between_in 1 120 _ c.if-b0-lt1.false c.if-b0-gt-MAX_BLOCK_MINIMUM.false) eight
    (within_leb c.sum_minima.ensures c.from.ensures c.if-from-sum_minima.false)
