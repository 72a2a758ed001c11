-- The radius is the least, the assignment at it the first, and `number` writes it into the list. Assumes nothing.
use Rattle.blocking_core.proofs.CoreLaws.{assigned_core}
use Rattle.blocking_core.proofs.kernel.assign.Goals as goal

pub returns : goal.returns
returns c =
    let problem = c.args.problem.now in
    let least = c.least_radius-found.ensures in
    let first = c.first_assignment.ensures in
    assigned_core problem.valid problem.study.tides.few least.least (rw least.same at first.first) c.requires c.number.ensures
