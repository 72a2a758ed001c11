-- The tides passed so far are as far both ways. Assumes nothing.
use mathlib.Core.Bool.{true}
use mathlib.Core.Path.{◌≡◌}
use lib.Dec.{eqb}
use Rattle.lists.specs.Lists.{every}
use Rattle.metric_closure.specs.Call.{entry}
use Rattle.metric_closure.proofs.square.Square.is_row_symmetric.Given as goal

abbrev pub invariant-loop-j : goal.invariant-loop-j
invariant-loop-j l = every l.j (λ j. eqb (entry l.self.n l.self.places.now l.i j) (entry l.self.n l.self.places.now j l.i)) ≡ true
