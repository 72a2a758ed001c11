-- The first i places of the list hold the tide numbers of the first i centres, and the others stay. Assumes nothing.
use native.Mathlib.Omega.{arith}
use Rattle.lists.proofs.Tables.{overwrite_none, overwrite_step}
use Rattle.std.specs.Prelude.{◌+◌, get_or}
use mathlib.Core.Path.{refl}
use Rattle.blocking.proofs.front.put_centres.Goals as goal

pub loop-i-init : goal.loop-i-init
loop-i-init c = overwrite_none _ _

pub loop-i-preserved : goal.loop-i-preserved
loop-i-preserved c =
    let centres = c.args.centres.now.tides in
    overwrite_step (λ x. get_or centres x 0 + 1) _ _ c.loop-i.invariant refl (omega arith)
