-- `close_counted` meets its contract: the closed table is counted against the copy. Assumes nothing.
use native.Mathlib.Omega.{arith}
use Rattle.metric_closure.proofs.CallLaws.{counted}
use Rattle.metric_closure.proofs.counting.close_counted.Goals as goal

pub returns-clause-value : goal.returns-clause-value
returns-clause-value c =
    counted _ c.args.table.now c.requires.fits _ c.copy_from_slice.ensures.after (omega arith) c.close_table.ensures c.nearer_pairs.ensures
