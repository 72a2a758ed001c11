-- `valid_row` meets its contract: no pair of earlier tides violates the triangle inequality with the tide. Assumes nothing.
use Rattle.std.proofs.Common.{arith}
use Rattle.validity.proofs.ValidityLaws.{row_tested}
use Rattle.validity.proofs.valid_row.Goals as goal

pub returns : goal.returns
returns c = row_tested _ _ (omega arith) (omega arith) c.first_violation.ensures c.is_none.ensures
