-- `lower_row` meets its contract: the places passed so far hold the lesser of the two ways, the rest is as before. Assumes nothing.
use mathlib.Core.Path.{◌≡◌}
use lib.ListN.{length}
use Rattle.lists.specs.Lists.{overwrite}
use Rattle.metric_closure.specs.Tables.{lesser_way}
use Rattle.metric_closure.proofs.row.lower_row.Given as goal

abbrev pub invariant-loop-j : goal.invariant-loop-j
invariant-loop-j l = (l.row ≡ overwrite l.j (lesser_way l.initial.row l.line l.far) l.initial.row) × (length l.row ≡ length l.initial.row)
