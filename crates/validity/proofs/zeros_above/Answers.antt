-- `zeros_above` meets its contract: a minimum fails. Assumes nothing.
use Rattle.std.proofs.Common.{arith}
use Rattle.lists.proofs.Scans.{every_refuted}
use Rattle.validity.proofs.zeros_above.Goals as goal

pub returns-then-not-zero_above : goal.returns-then-not-zero_above
returns-then-not-zero_above c = every_refuted _ _ _ (omega arith) c.zero_above.ensures c.if-not-zero_above.true
