-- The tide may go to no block below m. Assumes nothing.
use borrow.Author.Count.{below_more}
use Rattle.promise.proofs.Pairs.{allows_yes, allows_no}
use Rattle.promise.proofs.table.first_allowed.Goals as goal

pub returns-then-allowed-m-ne0-clause-some : goal.returns-then-allowed-m-ne0-clause-some
returns-then-allowed-m-ne0-clause-some c = record { below = c.loop-m-test.true; may = allows_yes _ _ _ c.if-allowed-m-ne0.true }

pub loop-m-preserved : goal.loop-m-preserved
loop-m-preserved c = below_more _ _ c.loop-m.invariant (allows_no _ _ _ c.if-allowed-m-ne0.false)
