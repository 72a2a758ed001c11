-- The tally is that of the tides below t that lie in the ball. Assumes nothing.
use Rattle.radius_theory.specs.Arrays.{ball}
use Rattle.radius_search.specs.Tally.{Tallied}
use Rattle.radius_search.proofs.bound.tally_ball.Given as goal

abbrev pub invariant-loop-t : goal.invariant-loop-t
invariant-loop-t l = Tallied l.study.tides.settings.now (ball l.study.distances.now l.c l.g) l.t l.tally.found l.tally.by_setting
