-- `added_row` meets its contract: behind the least sums stand the distances to the first q remaining tides. Assumes nothing.
use Prim.Native.Nat.{◌≤◌, ◌-◌}
use Rattle.lists.specs.Lists.{at}
use Rattle.study.specs.Limits.{cell}
use Rattle.merge.specs.Rows.{cross_row}
use Rattle.merge.proofs.RowLaws.{Extended}
use Rattle.merge.specs.Lent.{of_tables}
use Rattle.merge.proofs.table.added_row.Given as goal

abbrev pub invariant-loop-q : goal.invariant-loop-q
invariant-loop-q l =
    Extended l.sources.first.dataset.n (of_tables cross_row l.sources l.j) (λ p. cell l.sources.second.distances.now (at l.rest.tides p) l.j) l.q l.row
