-- Bisection while the centres stay: no radius from start up to low has an assignment, and high has one; high - low falls. Assumes nothing.
use Rattle.lists.specs.Lists.{TailKept}
use Rattle.radius_search.proofs.AscentLaws.{Bracketed}
use Rattle.promise.specs.Met.{met}
use lib.ListN.{length}
use mathlib.Core.Path.{◌≡◌}
use Prim.Native.Nat.{◌-◌}
use Rattle.radius_search.proofs.stretch.Stretch.bisect.Given as goal

abbrev pub invariant-loop-low : goal.invariant-loop-low
invariant-loop-low l =
    let S = l.self.centres.now.study in
    Bracketed S.distances.now S.tides.n (met S.tides) l.self.start l.self.limit l.low l.high ×
    (length l.allowed ≡ length l.initial.allowed) × TailKept l.self.centres.now.study.tides.n l.initial.list l.list

abbrev pub decreases-loop-low : goal.decreases-loop-low
decreases-loop-low l = l.high - l.low
