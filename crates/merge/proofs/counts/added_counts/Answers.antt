-- `added_counts` meets its contract: the first i places hold the sums. Assumes nothing.
use Rattle.merge.proofs.AnswerLaws.{summed_none, summed_more, summed_all}
use Rattle.merge.proofs.counts.added_counts.Goals as goal

pub loop-i-init : goal.loop-i-init
loop-i-init c = summed_none

pub loop-i-preserved : goal.loop-i-preserved
loop-i-preserved c = summed_more c.loop-i.invariant c.loop-i-test.true

pub returns : goal.returns
returns c = summed_all c.loop-i.invariant c.loop-i-test.false
