-- `valid_rows` meets its contract: the rows passed so far obey the triangle rule. Assumes nothing.
use mathlib.Core.Bool.{true}
use mathlib.Core.Path.{◌≡◌}
use Rattle.lists.specs.Lists.{every}
use Rattle.validity.specs.Memory.{valid_row}
use Rattle.validity.proofs.valid_rows.Given as goal

abbrev pub invariant-loop-t : goal.invariant-loop-t
invariant-loop-t l = every l.t (valid_row l.distances) ≡ true
