-- `zeros_above` meets its contract: the minima passed so far are 0 above k. Assumes nothing.
use mathlib.Core.Bool.{cond, true}
use mathlib.Core.Path.{◌≡◌}
use lib.Dec.{ltb, eqb}
use lib.ListN.{get_or}
use Rattle.lists.specs.Lists.{every}
use Rattle.validity.proofs.zeros_above.Given as goal

abbrev pub invariant-loop-j : goal.invariant-loop-j
invariant-loop-j l = every l.j (λ j. cond (ltb j l.k) true (eqb (get_or l.b j 0) 0)) ≡ true
