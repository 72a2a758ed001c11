-- `put_counts` meets its contract: the counts passed so far are put, of at most five digits and a blank each. Assumes nothing.
use Prim.Native.Nat.{◌≤◌}
use native.Mathlib.Omega.{arith}
use mathlib.Core.Path.{◌≡◌, refl, ap}
use mir.Syntax.{w16}
use mir.Val.{Fits}
use borrow.Author.Rules.{rules}
use lib.ListN.{length, get_or}
use Rattle.sheet_text.specs.Text.{decimal}
use Rattle.sheet_text.proofs.NumberLaws.{decimal_short}
use Rattle.sheet_text.proofs.PuttingLaws.{puts_as}
use Rattle.sheet_text.proofs.LineLaws.{spaced_none, spaced_more}
use Rattle.sheet_text.proofs.lines.put_counts.Goals as goal

pub loop-count-init : goal.loop-count-init
loop-count-init c = (omega arith, spaced_none c.args.counts (omega arith))

pub put_number-end-requires : goal.put_number-end-requires
put_number-end-requires c =
    let short : length (decimal c.from.result) ≤ 5 =
    let fits : Fits w16 (get_or c.args.counts c.loop-count.count-index 0) = search rules in
    decimal_short 4 c.from.result (omega (arith, fits, c.from.ensures)) in
    omega (arith, short, c.loop-count.invariant.1.same)

pub loop-count-preserved : goal.loop-count-preserved
loop-count-preserved c =
    let short : length (decimal c.from.result) ≤ 5 =
    let fits : Fits w16 (get_or c.args.counts c.loop-count.count-index 0) = search rules in
    decimal_short 4 c.from.result (omega (arith, fits, c.from.ensures)) in
    let counts = c.args.counts in
    let four : length counts ≡ 4 = search rules in
    let put = puts_as c.put_number-end.ensures (ap decimal c.from.ensures) refl in (
      omega (arith, short),
      spaced_more counts c.loop-count.count-index (omega arith) c.loop-count.invariant.1 c.put_byte-after_blank.ensures put,
    )
