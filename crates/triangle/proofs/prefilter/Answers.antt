-- `prefilter` meets its contract: where a flag is raised, a pair violates the inequality or a distance is long. Assumes nothing.
use Rattle.std.proofs.Common.{arith}
use Rattle.triangle.proofs.PrefilterLaws.{obeys_more, obeys_clear}
use Rattle.triangle.proofs.prefilter.Goals as goal

pub returns-then-row_flags-gt0-clause-clear : goal.returns-then-row_flags-gt0-clause-clear
returns-then-row_flags-gt0-clause-clear c =
    λ S U. absurd (omega (arith, obeys_clear _ _ S U (omega arith) c.row_flags.ensures))

pub loop-i-preserved : goal.loop-i-preserved
loop-i-preserved c = obeys_more _ _ c.loop-i.invariant (omega arith) c.row_flags.ensures c.if-row_flags-gt0.false
