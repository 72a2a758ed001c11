-- `put_lines` meets its contract: the lines of the blocks passed so far are put, of at most 23 bytes each. Assumes nothing.
use native.Mathlib.Omega.{arith}
use mathlib.Core.Path.{◌≡◌}
use borrow.Author.Rules.{rules}
use lib.ListN.{length, take, length-take}
use Rattle.sheet_text.specs.Text.{line}
use Rattle.sheet_text.proofs.LineLaws.{lines_none, lines_more, lines_all}
use Rattle.sheet_text.proofs.lines.put_lines.Goals as goal

pub loop-i-init : goal.loop-i-init
loop-i-init c = (omega arith, lines_none line (take c.min.result c.args.records) (omega arith))

pub loop-i-preserved : goal.loop-i-preserved
loop-i-preserved c =
    let turn = c.loop-i in
    (omega arith, lines_more line _ _ turn.i c.loop-i-test.true turn.invariant.1 c.put_line-end.ensures.1)

pub returns : goal.returns
returns c =
    let records = c.args.records in
    let long : length records ≡ 120 = search rules in (
      omega (arith, c.min.ensures, length-take c.min.result records),
      lines_all line records c.loop-i.i _ c.args.blocks (omega (arith, c.min.ensures, long)) c.loop-i-test.false c.loop-i.invariant.1,
    )
