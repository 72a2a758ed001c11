-- The counts are those of the ball, and they meet the minima where the ball does. Assumes nothing.
use mathlib.Core.Path.{◌∙◌}
use Rattle.promise.specs.Promise.{meeting}
use Rattle.radius_search.proofs.TallyLaws.{met_meets}
use Rattle.radius_search.proofs.bound.ball_meets.Goals as goal

pub returns : goal.returns
unfolding meeting
returns c = c.meets.ensures ∙ met_meets c.args.study.now.tides.minima c.tally_ball.ensures
