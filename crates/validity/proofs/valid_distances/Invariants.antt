-- `valid_distances` meets its contract: the rows of places passed so far are valid. Assumes nothing.
use mathlib.Core.Bool.{true}
use mathlib.Core.Path.{◌≡◌}
use Rattle.lists.specs.Lists.{every}
use Rattle.validity.specs.Memory.{valid_place}
use Rattle.validity.proofs.valid_distances.Given as goal

abbrev pub invariant-loop-i : goal.invariant-loop-i
invariant-loop-i l = every l.i (λ i. every 120 (valid_place l.n l.distances i)) ≡ true
