-- `valid_distances` meets its contract: a row fails. Assumes nothing.
use Rattle.std.proofs.Common.{arith}
use Rattle.lists.proofs.Scans.{every_refuted}
use Rattle.validity.proofs.valid_distances.Goals as goal

pub returns-then-not-valid_places : goal.returns-then-not-valid_places
returns-then-not-valid_places c = every_refuted _ _ _ (omega arith) c.valid_places.ensures c.if-not-valid_places.true
