-- From here the next word begins where it begins from the start. Assumes nothing.
use native.Mathlib.Omega.{arith}
use lib.ListN.{length, get_or}
use mathlib.Core.Path.{◌≡◌, sym, ap, ◌∙◌}
use Rattle.text_words.specs.declared.Cursor.{Cursor}
use Rattle.text_words.proofs.WordLaws.{newline_small, start_goes, start_here, start_end}
use Rattle.text_words.proofs.skip.Goals as goal

pub returns-then-begins-clause-start : goal.returns-then-begins-clause-start
returns-then-begins-clause-start c =
    let turn = c.loop-at in
    start_here c.args.text.now turn.comment turn.at turn.line c.loop-at-test.true (sym c.begins.ensures ∙ c.if-begins.true) turn.invariant.1

pub loop-at-preserved : goal.loop-at-preserved
loop-at-preserved c = (
  omega (arith, c.newline-line.ensures, newline_small (get_or c.args.text.now c.loop-at.at 0)),
  start_goes c.args.text.now c.loop-at.comment c.loop-at.at c.loop-at.line c.loop-at-test.true (sym c.begins.ensures ∙ c.if-begins.false)
      c.comment_after-comment.ensures c.newline-line.ensures c.loop-at.invariant.1,
)

pub returns-clause-start : goal.returns-clause-start
returns-clause-start c =
    let turn = c.loop-at in
    let end : turn.at ≡ length c.args.text.now = omega arith in
    let there : Cursor = record { at = length c.args.text.now; line = turn.line } in
    let here : there ≡ record { at = turn.at; line = turn.line } = ap (λ n. record { at = n; line = turn.line }) (sym end) in
    here ∙ start_end c.args.text.now turn.comment turn.at turn.line end turn.invariant.1
