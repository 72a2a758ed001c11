-- `row_in_range` meets its contract: the distances passed so far are in range. Assumes nothing.
use mathlib.Core.Bool.{true}
use mathlib.Core.Path.{◌≡◌}
use lib.Dec.{leb}
use lib.ListN.{get_or}
use Rattle.lists.specs.Lists.{every}
use Rattle.validity.proofs.row_in_range.Given as goal

abbrev pub invariant-loop-x : goal.invariant-loop-x
invariant-loop-x l = every l.x-index (λ i. leb (get_or l.row i 0) 1048575) ≡ true
