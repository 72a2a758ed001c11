-- `added_row` meets its contract: behind the least sums stand the distances to the first q remaining tides. Assumes nothing.
use native.Mathlib.Omega.{arith}
use borrow.Author.Rules.{rules}
use Prim.Native.Nat.{ℕ}
use mathlib.Core.Path.{ap}
use Rattle.study.specs.Limits.{cell}
use Rattle.merge.specs.Rows.{added_row}
use Rattle.merge.proofs.RowLaws.{extended_none, extended_more, extended_done}
use Rattle.merge.proofs.table.added_row.Goals as goal

pub loop-q-init : goal.loop-q-init
loop-q-init c = extended_none c.cross_row-row.ensures (search rules)

pub loop-q-preserved : goal.loop-q-preserved
loop-q-preserved c =
    let far = c.args.sources.now.second.distances.now in
    extended_more c.loop-q.invariant (omega (arith, c.requires.remaining.few)) (ap (λ (z : ℕ). cell far z c.from-j.result) c.from.ensures)

pub returns : goal.returns
unfolding added_row
returns c = rw c.from-j.ensures at (extended_done c.loop-q.invariant (omega arith) c.loop-q-test.false)
