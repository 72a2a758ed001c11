-- `cross_row` meets its contract: each place holds the least sum by the pairs passed so far. Assumes nothing.
use Prim.Native.Nat.{◌-◌}
use lib.ListN.{length}
use Rattle.merge.proofs.RowLaws.{Lowest}
use Rattle.merge.specs.Lent.{of_tables}
use Rattle.merge.proofs.table.cross_row.Given as goal

abbrev pub invariant-loop-q : goal.invariant-loop-q
invariant-loop-q l = of_tables Lowest l.sources l.j l.initial.row l.q l.row
