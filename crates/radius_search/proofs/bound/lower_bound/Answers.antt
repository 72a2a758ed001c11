-- Bisection: no radius below low has an assignment, since the first tide's ball of low - 1 falls short; high - low falls. Assumes nothing.
use native.Mathlib.Omega.{arith}
use Rattle.radius_search.proofs.BoundLaws.{bounded_more}
use mathlib.Core.Path.{sym, ◌∙◌}
use Rattle.radius_search.proofs.bound.lower_bound.Goals as goal

pub loop-low-preserved : goal.loop-low-preserved
loop-low-preserved c =
    let short = sym c.ball_meets.ensures ∙ c.if-ball_meets.false in
    (omega arith, omega arith, bounded_more _ _ _ _ c.requires short)
