-- The rows passed so far are symmetric. Assumes nothing.
use mathlib.Core.Bool.{true}
use mathlib.Core.Path.{◌≡◌}
use Rattle.lists.specs.Lists.{every}
use Rattle.metric_closure.specs.Call.{symmetric_row}
use Rattle.metric_closure.proofs.square.Square.is_symmetric.Given as goal

abbrev pub invariant-loop-i : goal.invariant-loop-i
invariant-loop-i l = every l.i (symmetric_row l.self.n l.self.places.now) ≡ true
