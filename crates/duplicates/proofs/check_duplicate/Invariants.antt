-- `check_duplicate` meets its contract: the new tide is a duplicate of none of the tides passed so far. Assumes nothing.
use Rattle.std.proofs.Common.{◌≡◌, true}
use Rattle.lists.specs.Lists.{every}
use Rattle.duplicates.proofs.ScanLaws.{differs}
use Rattle.duplicates.proofs.check_duplicate.Given as goal

abbrev pub invariant-loop-i : goal.invariant-loop-i
invariant-loop-i l = every l.i (differs l.settings l.setting l.row) ≡ true
