-- The digits to come, after the value so far, give the word's number up to the cap. Assumes nothing.
use native.Mathlib.Omega.{arith}
use lib.ListN.{get_or}
use mathlib.Core.Path.{refl, sym, ◌∙◌}
use Rattle.text_words.specs.Words.{digit, with_digit}
use Rattle.text_words.proofs.WordLaws.{capped_most, digit_low, digits_more, value_more, numeral_bad, numeral_number, numeral_large}
use Rattle.text_words.proofs.numeral_of.Goals as goal

pub loop-b-init : goal.loop-b-init
loop-b-init c = (omega arith, refl, refl)

pub returns-then-not-is_ascii_digit : goal.returns-then-not-is_ascii_digit
unfolding digit
returns-then-not-is_ascii_digit c =
    numeral_bad c.args.word.now c.loop-b.b-index c.loop-b-test.true (sym c.is_ascii_digit.ensures.value ∙ c.if-not-is_ascii_digit.true)
    c.loop-b.invariant.1

pub with_digit-value-requires : goal.with_digit-value-requires
unfolding digit
with_digit-value-requires c = (
  c.loop-b.invariant.0,
  digit_low _ (sym c.is_ascii_digit.ensures.value ∙ c.if-not-is_ascii_digit.false),
  omega (arith, c.type_inv.word c.loop-b.b-index),
)

pub loop-b-preserved : goal.loop-b-preserved
unfolding digit
loop-b-preserved c = (
  omega (arith, c.with_digit-value.ensures, capped_most (with_digit c.loop-b.value (get_or c.args.word.now c.loop-b.b-index 0))),
  digits_more c.args.word.now c.loop-b.b-index c.loop-b-test.true (sym c.is_ascii_digit.ensures.value ∙ c.if-not-is_ascii_digit.false) c.loop-b.invariant.1,
  value_more c.args.word.now c.loop-b.b-index c.loop-b.value c.loop-b-test.true c.with_digit-value.ensures c.loop-b.invariant.2,
)

pub returns-then-value-lt-TOO_LARGE : goal.returns-then-value-lt-TOO_LARGE
returns-then-value-lt-TOO_LARGE c =
    let turn = c.loop-b in
    numeral_number c.args.word.now turn.b-index turn.value (omega arith) turn.invariant.1 turn.invariant.2 c.if-value-lt-TOO_LARGE.true

pub returns : goal.returns
returns c =
    let turn = c.loop-b in
    numeral_large c.args.word.now turn.b-index turn.value (omega arith) turn.invariant.1 turn.invariant.2 c.if-value-lt-TOO_LARGE.false
