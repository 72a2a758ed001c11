-- `counts_fit` meets its contract: a sum is too great, or one more is not. Assumes nothing.
use Rattle.std.proofs.Common.{arith, refl}
use Rattle.lists.proofs.Scans.{every_none, every_more}
use Rattle.merge.proofs.AnswerLaws.{count_fits, count_over, counts_pass}
use Rattle.merge.proofs.counts.counts_fit.Goals as goal

pub loop-i-init : goal.loop-i-init
loop-i-init c = every_none _

pub returns-then-v-i : goal.returns-then-v-i
returns-then-v-i c = count_over _ _ c.loop-i.i (omega arith) refl refl (omega arith)

pub loop-i-preserved : goal.loop-i-preserved
loop-i-preserved c = every_more _ _ c.loop-i.invariant (count_fits _ _ c.loop-i.i (omega arith) refl refl (omega arith))

pub returns : goal.returns
returns c = counts_pass _ _ _ (omega arith) (omega arith) c.loop-i.invariant
