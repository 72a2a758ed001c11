-- The loop's invariant: the first i bytes stand in place of zeros. Assumes nothing.
use Rattle.std.proofs.Common.{arith, ap, ◌∙◌}
use Rattle.narrowing.specs.Narrowing.{narrowed}
use lib.ListN.{replicate}
use Rattle.lists.proofs.Tables.{overwrite_none, overwrite_step, overwrite_done}
use Rattle.c_records.proofs.RecordLaws.{bytes_read}
use Rattle.c_records.proofs.numbers.minima_bytes.Goals as goal

pub loop-i-init : goal.loop-i-init
loop-i-init c = overwrite_none _ _

pub loop-i-preserved : goal.loop-i-preserved
loop-i-preserved c = overwrite_step _ (replicate 9 0) _ c.loop-i.invariant (c.narrow.ensures ∙ ap narrowed c.from.ensures) (omega arith)

pub returns : goal.returns
returns c = bytes_read _ (overwrite_done _ _ (omega arith) c.loop-i.invariant)
