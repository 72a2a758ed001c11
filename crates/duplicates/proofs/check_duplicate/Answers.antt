-- `check_duplicate` meets its contract: the scan ends at the first duplicate, or has passed all tides. Assumes nothing.
use Rattle.std.proofs.Common.{arith, sym, ap, ◌∙◌, not}
use Rattle.lists.proofs.Scans.{every_none, every_more}
use Rattle.duplicates.proofs.ScanLaws.{duplicate_found, duplicate_none}
use Rattle.duplicates.proofs.check_duplicate.Goals as goal

pub loop-i-init : goal.loop-i-init
loop-i-init c = every_none _

-- a duplicate
pub returns-then-is_duplicate_of : goal.returns-then-is_duplicate_of
returns-then-is_duplicate_of c = duplicate_found _ _ _ _ (omega arith) (sym c.is_duplicate_of.ensures ∙ c.if-is_duplicate_of.true)

pub loop-i-preserved : goal.loop-i-preserved
loop-i-preserved c = every_more _ _ c.loop-i.invariant (ap not (sym c.is_duplicate_of.ensures ∙ c.if-is_duplicate_of.false))

-- none
pub returns : goal.returns
returns c = duplicate_none _ _ _ _ (omega arith) (omega arith) c.loop-i.invariant
