-- `nearer_places` meets its contract: the count over the places passed so far. Assumes nothing.
use Prim.Native.Nat.{◌≤◌}
use mathlib.Core.Path.{◌≡◌}
use lib.Dec.{ltb}
use lib.ListN.{get_or}
use Rattle.lists.specs.Lists.{count_below}
use Rattle.metric_closure.proofs.counting.nearer_places.Given as goal

abbrev pub invariant-loop-j : goal.invariant-loop-j
invariant-loop-j l = (l.total ≡ count_below l.j (λ j. ltb (get_or l.new j 0) (get_or l.old j 0))) × (l.total ≤ l.j)
