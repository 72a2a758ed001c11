-- `valid_places` meets its contract: a place fails. Assumes nothing.
use Rattle.std.proofs.Common.{arith}
use Rattle.lists.proofs.Scans.{every_refuted}
use Rattle.validity.proofs.valid_places.Goals as goal

pub returns-then-not-valid_place : goal.returns-then-not-valid_place
returns-then-not-valid_place c = every_refuted _ _ _ (omega arith) c.valid_place.ensures c.if-not-valid_place.true
