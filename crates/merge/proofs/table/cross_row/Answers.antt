-- `cross_row` meets its contract: each place holds the least sum by the pairs passed so far; (length firsts) - q falls. Assumes nothing.
use native.Mathlib.Omega.{arith}
use borrow.Author.Rules.{rules}
use Rattle.merge.proofs.RowLaws.{begun, lowest_none, lowest_more, lowest_done}
use Rattle.merge.proofs.table.cross_row.Goals as goal

pub loop-q-init : goal.loop-q-init
loop-q-init c = lowest_none (search rules)

pub loop-q-preserved : goal.loop-q-preserved
loop-q-preserved c =
    let pre = c.requires in
    lowest_more pre.tables pre.j_lt_max_tides c.loop-q.invariant c.loop-q-test.true c.tide_of-start.ensures c.tide_of.ensures
    c.lower_row.ensures

pub returns : goal.returns
returns c = let pre = c.requires in lowest_done pre.tables pre.j_lt_max_tides (begun _ (omega arith)) c.loop-q.invariant c.loop-q-test.false
