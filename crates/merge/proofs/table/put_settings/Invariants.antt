-- `put_settings` meets its contract: the first r settings stand behind those of the first dataset. Assumes nothing.
use Prim.Native.Nat.{◌+◌, ◌-◌}
use lib.ListN.{set}
use Rattle.lists.specs.Lists.{at}
use Rattle.merge.proofs.RowLaws.{Stepped}
use Rattle.merge.proofs.table.put_settings.Given as goal

abbrev pub invariant-loop-r : goal.invariant-loop-r
invariant-loop-r l =
    Stepped (λ k g. set g (l.sources.first.dataset.n + k) (at l.sources.second.settings.now (at l.rest.tides k))) l.rest.count l.initial.s3 l.s3 l.r
