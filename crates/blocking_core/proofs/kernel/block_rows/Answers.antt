-- What `assign` finds and what `measure` counts, together. Assumes nothing.
use Rattle.blocking_core.proofs.CoreLaws.{core_blocks}
use Rattle.blocking_core.proofs.kernel.block_rows.Goals as goal

pub returns-clause-blocks : goal.returns-clause-blocks
returns-clause-blocks c = core_blocks c.args.problem.now.study.tides.few c.assign-found.ensures c.measure-measures.ensures
