-- `in_range` meets its contract: the rows passed so far are in range. Assumes nothing.
use Prim.Native.Nat.{◌≤◌, ◌-◌}
use mathlib.Core.Path.{◌≡◌}
use mathlib.Core.Bool.{true}
use lib.ListN.{take}
use Rattle.lists.specs.Lists.{every, at}
use Rattle.merge.specs.Rows.{cross_row, row_in_range}
use Rattle.merge.specs.Lent.{of_tables}
use Rattle.merge.proofs.table.in_range.Given as goal

abbrev pub invariant-loop-r : goal.invariant-loop-r
invariant-loop-r l =
    every l.r (λ k. row_in_range (take l.sources.first.dataset.n (of_tables cross_row l.sources (at l.rest.tides k)))) ≡ true
