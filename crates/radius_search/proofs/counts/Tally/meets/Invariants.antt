-- The counts of the first j settings meet their minima. Assumes nothing.
use mathlib.Core.Path.{◌≡◌}
use mathlib.Core.Bool.{true}
use Rattle.lists.specs.Lists.{every}
use Rattle.radius_search.specs.Tally.{enough}
use Rattle.radius_search.proofs.counts.Tally.meets.Given as goal

abbrev pub invariant-loop-j : goal.invariant-loop-j
invariant-loop-j l = every l.j (enough l.minima.b l.self.by_setting) ≡ true
