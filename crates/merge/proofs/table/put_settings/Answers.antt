-- `put_settings` meets its contract: the first r settings stand behind those of the first dataset; m - r falls. Assumes nothing.
use Prim.Native.Nat.{ℕ, ◌+◌}
use mathlib.Core.Path.{ap}
use lib.ListN.{get_or, set, length-set}
use Rattle.std.proofs.Common.{◌∙◌}
use Rattle.merge.proofs.RowLaws.{stepped_none, stepped_more, stepped_done}
use Rattle.storage.proofs.PlaceLaws.{front_copied}
use Rattle.merge.proofs.table.put_settings.Goals as goal

pub loop-r-init : goal.loop-r-init
loop-r-init c = stepped_none

pub loop-r-preserved : goal.loop-r-preserved
loop-r-preserved c =
    let turn = c.loop-r in
    let sources = c.args.sources.now in
    let place = sources.first.dataset.n + turn.r in
    let stored = ap (λ (z : ℕ). set turn.s3 place (get_or sources.second.settings.now z 0)) c.from.ensures in
    stepped_more turn.invariant c.loop-r-test.true stored (simp length-set)

pub returns : goal.returns
returns c =
    let n = c.requires.max_tides_in_bounds.0 in
    stepped_done c.loop-r.invariant c.loop-r-test.false (c.copy_front.ensures ∙ front_copied _ _ _ n)
