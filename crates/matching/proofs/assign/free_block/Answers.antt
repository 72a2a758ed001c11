-- The hinted block where the table allows it, else the first allowed. Assumes nothing.
use Rattle.promise.proofs.Pairs.{allows_yes}
use Rattle.matching.proofs.assign.free_block.Goals as goal

pub returns-then-graph-hint-ne0-clause-some : goal.returns-then-graph-hint-ne0-clause-some
returns-then-graph-hint-ne0-clause-some c = record { below = c.if-hint-graph.true; may = allows_yes _ _ _ c.if-graph-hint-ne0.true }
