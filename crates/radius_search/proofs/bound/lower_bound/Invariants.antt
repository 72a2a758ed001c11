-- Bisection: no radius below low has an assignment, since the first tide's ball of low - 1 falls short; high - low falls. Assumes nothing.
use Rattle.radius_search.specs.Bounds.{Bounded}
use Rattle.study.specs.Limits.{max_distance}
use Rattle.promise.specs.Met.{met}
use Prim.Native.Nat.{◌≤◌, ◌-◌}
use Rattle.radius_search.proofs.bound.lower_bound.Given as goal

abbrev pub invariant-loop-low : goal.invariant-loop-low
invariant-loop-low l = (l.low ≤ l.high) × (l.high ≤ max_distance) × Bounded l.study.distances.now l.study.tides.n (met l.study.tides) l.low

abbrev pub decreases-loop-low : goal.decreases-loop-low
decreases-loop-low l = l.high - l.low
