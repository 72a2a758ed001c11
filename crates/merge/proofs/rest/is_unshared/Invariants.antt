-- `is_unshared` meets its contract: none of the pairs passed so far has the tide; (length firsts) - q falls. Assumes nothing.
use Prim.Native.Nat.{◌≤◌, ◌-◌}
use mathlib.Core.Path.{◌≡◌}
use mathlib.Core.Bool.{true, not}
use lib.Dec.{eqb}
use lib.ListN.{length}
use Rattle.lists.specs.Lists.{every, at}
use Rattle.merge.proofs.rest.is_unshared.Given as goal

abbrev pub invariant-loop-q : goal.invariant-loop-q
invariant-loop-q l = every l.q (λ p. not (eqb (at l.seconds p - 1) l.j)) ≡ true
