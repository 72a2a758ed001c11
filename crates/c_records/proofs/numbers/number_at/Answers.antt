-- Each place has its number. Assumes nothing.
use borrow.Author.Rules.{rules}
use native.Mathlib.Omega.{arith}
use mathlib.Core.Path.{◌≡◌, refl, ◌∙◌}
use lib.ListN.{length}
use Rattle.c_records.specs.Record.{numbers_of}
use Rattle.c_records.proofs.RecordLaws.{number_is, number_b, number_count}
use Rattle.c_records.proofs.numbers.number_at.Goals as goal

pub returns-then-i-eq0 : goal.returns-then-i-eq0
unfolding numbers_of
returns-then-i-eq0 c = number_is c.args.dataset c.if-i-eq0.true c.from.ensures

pub returns-then-i-eq1 : goal.returns-then-i-eq1
unfolding numbers_of
returns-then-i-eq1 c = number_is c.args.dataset c.if-i-eq1.true refl

pub returns-then-i-eq2 : goal.returns-then-i-eq2
unfolding numbers_of
returns-then-i-eq2 c = number_is c.args.dataset c.if-i-eq2.true c.from-then-i-eq2.ensures

pub returns-then-i-ge11 : goal.returns-then-i-ge11
returns-then-i-ge11 c =
    let eight : length c.args.dataset.minima.b ≡ 8 = search rules in
    number_count _ eight _ c.if-i-ge11.true

pub returns : goal.returns
returns c =
    let eight : length c.args.dataset.minima.b ≡ 8 = search rules in
    c.from-2.ensures ∙ number_b _ eight _ (omega arith) (omega arith)
