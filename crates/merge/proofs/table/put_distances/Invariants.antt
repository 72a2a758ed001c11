-- `put_distances` meets its contract: the rows of the first r remaining tides are added to the first table. Assumes nothing.
use Prim.Native.Nat.{◌-◌}
use lib.ListN.{length}
use Rattle.storage.specs.Places.{with_row}
use Rattle.merge.specs.Rows.{added_row}
use Rattle.merge.proofs.RowLaws.{Stepped}
use Rattle.merge.specs.Lent.{of_tables}
use Rattle.merge.proofs.table.put_distances.Given as goal

abbrev pub invariant-loop-r : goal.invariant-loop-r
invariant-loop-r l =
    let row = of_tables (added_row l.sources.first.dataset.n) l.sources l.rest.tides in
    Stepped (λ k. with_row (row k) (length (row k))) l.rest.count l.initial.d3 l.d3 l.r
