-- `sum_minima` meets its contract: the sum of the minima passed so far. Assumes nothing.
use Prim.Native.Nat.{◌≤◌, ◌*◌}
use mathlib.Core.Path.{◌≡◌}
use lib.ListN.{get_or}
use Rattle.lists.specs.Lists.{sum_below}
use Rattle.validity.proofs.sum_minima.Given as goal

abbrev pub invariant-loop-j : goal.invariant-loop-j
invariant-loop-j l = (l.total ≡ sum_below l.j (λ j. get_or l.b j 0)) × (l.total ≤ 255 * l.j)
