-- The tally is that of the tides below t under the number. Assumes nothing.
use Rattle.study.specs.Problem.{block, labels}
use Rattle.radius_search.specs.Tally.{Tallied}
use Rattle.blocking.proofs.judging.Proposal.tally_block.Given as goal

abbrev pub invariant-loop-t : goal.invariant-loop-t
invariant-loop-t l =
    Tallied l.self.study.tides.settings.now (block (labels l.self.list.now) l.number) l.t l.tally.found l.tally.by_setting
