-- `all_consistent` meets its contract: a pair is not consistent. Assumes nothing.
use Rattle.std.proofs.Common.{arith}
use Rattle.lists.proofs.Scans.{every_refuted}
use Rattle.merge.proofs.pairs.all_consistent.Goals as goal

pub returns-then-not-is_consistent : goal.returns-then-not-is_consistent
returns-then-not-is_consistent c = every_refuted _ _ _ (omega arith) c.is_consistent.ensures c.if-not-is_consistent.true
