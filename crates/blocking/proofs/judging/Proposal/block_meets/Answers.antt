-- The counts are those of the tides under the number, and they meet the minima where those tides do. Assumes nothing.
use mathlib.Core.Path.{◌∙◌}
use Rattle.promise.specs.Promise.{meeting}
use Rattle.radius_search.proofs.TallyLaws.{met_meets}
use Rattle.blocking.proofs.judging.Proposal.block_meets.Goals as goal

pub returns : goal.returns
unfolding meeting
returns c = c.meets.ensures ∙ met_meets c.args.self.now.study.tides.minima c.tally_block.ensures
