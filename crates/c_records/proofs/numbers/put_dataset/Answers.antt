-- The loop's invariant: the first i places hold their numbers, the rest stays, and no place is added. Assumes nothing.
use borrow.Author.Rules.{rules}
use native.Mathlib.Omega.{arith}
use mathlib.Core.Path.{◌≡◌, refl, ◌∙◌}
use lib.ListN.{length, length-set}
use Rattle.lists.proofs.Tables.{overwrite_none, overwrite_step, overwrite_done}
use Rattle.c_records.proofs.RecordLaws.{written}
use Rattle.c_records.proofs.numbers.put_dataset.Goals as goal

pub loop-i-init : goal.loop-i-init
loop-i-init c = (overwrite_none _ _, refl)

pub loop-i-preserved : goal.loop-i-preserved
loop-i-preserved c =
    let inv = c.loop-i.invariant in
    (overwrite_step _ _ _ inv.0 c.number_at.ensures (omega arith), simp length-set inv.1)

pub returns : goal.returns
returns c =
    let eight : length c.args.dataset.minima.b ≡ 8 = search rules in
    let four : length c.args.dataset.withdrawn ≡ 4 = search rules in
    overwrite_done _ _ (omega arith) c.loop-i.invariant.0 ∙ written _ eight four _
