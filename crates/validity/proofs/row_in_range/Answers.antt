-- `row_in_range` meets its contract: a distance is too great, or one more is not. Assumes nothing.
use Rattle.std.proofs.Common.{arith, sym, le-leb}
use borrow.Author.Tests.{lt-leb}
use Rattle.lists.proofs.Scans.{every_more, every_fails}
use Rattle.validity.proofs.row_in_range.Goals as goal

pub returns-then-x-gt-MAX_DISTANCE : goal.returns-then-x-gt-MAX_DISTANCE
returns-then-x-gt-MAX_DISTANCE c = sym (every_fails _ _ _ (omega arith) (lt-leb _ _ c.if-x-gt-MAX_DISTANCE.true))

pub loop-x-preserved : goal.loop-x-preserved
loop-x-preserved c = every_more _ _ c.loop-x.invariant (le-leb _ _ c.if-x-gt-MAX_DISTANCE.false)
