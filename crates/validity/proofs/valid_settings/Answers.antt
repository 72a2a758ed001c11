-- `valid_settings` meets its contract: a setting fails. Assumes nothing.
use Rattle.std.proofs.Common.{arith}
use Rattle.lists.proofs.Scans.{every_refuted}
use Rattle.validity.proofs.valid_settings.Goals as goal

pub returns-then-not-valid_setting : goal.returns-then-not-valid_setting
returns-then-not-valid_setting c = every_refuted _ _ _ (omega arith) c.valid_setting.ensures c.if-not-valid_setting.true
