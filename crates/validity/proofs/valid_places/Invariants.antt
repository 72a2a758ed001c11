-- `valid_places` meets its contract: the places of the row passed so far are valid. Assumes nothing.
use mathlib.Core.Bool.{true}
use mathlib.Core.Path.{◌≡◌}
use Rattle.lists.specs.Lists.{every}
use Rattle.validity.specs.Memory.{valid_place}
use Rattle.validity.proofs.valid_places.Given as goal

abbrev pub invariant-loop-j : goal.invariant-loop-j
invariant-loop-j l = every l.j (valid_place l.n l.distances l.i) ≡ true
