-- The first i places hold the rows' records, and the later ones are as they were. Assumes nothing.
use Rattle.std.specs.Prelude.{◌≡◌}
use Rattle.lists.specs.Lists.{overwrite}
use Rattle.blocking.specs.Rows.{row_record}
use Rattle.blocking.proofs.storing.put_records.Given as goal

abbrev pub invariant-loop-i : goal.invariant-loop-i
invariant-loop-i l = l.records ≡ overwrite l.i (row_record l.rows) l.initial.records
