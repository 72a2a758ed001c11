-- Radii upwards: no candidate below g has an assignment, and g is a candidate. A turn goes from g to limit, where the centres change, unless
-- a radius between has an assignment; no_radius - g falls. Assumes nothing.
use Rattle.lists.specs.Lists.{TailKept}
use Rattle.radius_theory.specs.Posed.{posed}
use Rattle.radius_theory.specs.Radii.{no_radius, Lowest}
use lib.ListN.{length}
use mathlib.Core.Path.{◌≡◌}
use Prim.Native.Nat.{◌<◌, ◌-◌}
use Rattle.radius_search.proofs.problem.Problem.least_radius.Given as goal

abbrev pub invariant-loop-centres : goal.invariant-loop-centres
invariant-loop-centres l =
    (l.centres.study ≡ l.self.study) × Lowest (posed l.self.study) l.g × (l.g < no_radius) ×
    (length l.allowed ≡ length l.initial.allowed) × TailKept l.self.study.tides.n l.initial.list l.list

abbrev pub decreases-loop-centres : goal.decreases-loop-centres
decreases-loop-centres l = no_radius - l.g
