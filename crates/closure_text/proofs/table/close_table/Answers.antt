-- `close_table` meets its contract: such a table is not refused. Assumes nothing.
use Rattle.closure_text.proofs.RowLaws.{told_pairs, pairs_few, never_refused, closed_left}
use Rattle.closure_text.proofs.table.close_table.Goals as goal

pub overflow_cast-result : goal.overflow_cast-result
overflow_cast-result c =
    record { fits = pairs_few _ c.requires c.close.ensures.answer c.in-Ok.is }

pub returns-in-Ok : goal.returns-in-Ok
returns-in-Ok c = (
  told_pairs _ c.requires c.close.ensures.answer c.in-Ok.is,
  closed_left c.close.result c.requires c.close.ensures.answer c.close.ensures.leaves,
)

pub returns-in-Err : goal.returns-in-Err
returns-in-Err c =
    never_refused _ c.requires c.close.ensures.answer c.in-Err.is
