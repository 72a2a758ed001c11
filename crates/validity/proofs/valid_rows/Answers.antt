-- `valid_rows` meets its contract: a row fails. Assumes nothing.
use Rattle.std.proofs.Common.{arith}
use Rattle.lists.proofs.Scans.{every_refuted}
use Rattle.validity.proofs.valid_rows.Goals as goal

pub returns-then-not-valid_row : goal.returns-then-not-valid_row
returns-then-not-valid_row c = every_refuted _ _ _ (omega arith) c.valid_row.ensures c.if-not-valid_row.true
