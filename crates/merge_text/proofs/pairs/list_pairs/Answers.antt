-- `list_pairs` meets its contract. The loop's invariant: after as many steps as pairs are listed, the text stands at this place; the bytes that are
-- left become fewer. Assumes nothing.
use native.Mathlib.Omega.{arith}
use mathlib.Core.Path.{refl, ap}
use Rattle.std.specs.Prelude.{Ok}
use Rattle.lists.proofs.Results.{handed_on}
use lib.ListN.{length-set}
use Rattle.merge_text.proofs.ListingLaws.{text_long, listing_none, listing_ends, listing_stops, listing_after, listing_few, listing_more}
use Rattle.merge_text.proofs.pairs.list_pairs.Goals as goal

pub returns-then-text-gt131072 : goal.returns-then-text-gt131072
returns-then-text-gt131072 c = text_long c.if-text-gt131072.true c.whole_lines.ensures

pub loop-pair-init : goal.loop-pair-init
loop-pair-init c = (listing_none c.if-text-gt131072.false, c.requires.0, c.requires.1, refl, refl)

pub returns-in_err-pair : goal.returns-in_err-pair
returns-in_err-pair c = listing_stops c.loop-pair.invariant.0 c.in_err-pair.ensures refl (handed_on c.from_residual.ensures.1)

pub returns-in_default : goal.returns-in_default
returns-in_default c = listing_ends c.loop-pair.invariant.0 c.in_ok-pair.ensures (ap Ok c.in_default.is)

pub bounds-firsts-count : goal.bounds-firsts-count
bounds-firsts-count c =
    let inv = c.loop-pair.invariant in
    omega (arith, listing_few inv.0 c.in_ok-pair.ensures (ap Ok c.in-Some.is), inv.1)

pub bounds-seconds-count : goal.bounds-seconds-count
bounds-seconds-count c =
    let inv = c.loop-pair.invariant in
    omega (arith, listing_few inv.0 c.in_ok-pair.ensures (ap Ok c.in-Some.is), inv.2)

pub loop-pair-smaller : goal.loop-pair-smaller
loop-pair-smaller c =
    let inv = c.loop-pair.invariant in
    let A = listing_after inv.0 c.in_ok-pair.ensures (ap Ok c.in-Some.is) in
    omega (arith, A.past, A.within.inside, A.within.short)

pub loop-pair-preserved : goal.loop-pair-preserved
loop-pair-preserved c =
    let inv = c.loop-pair.invariant in
    let few = listing_few inv.0 c.in_ok-pair.ensures (ap Ok c.in-Some.is) in (
      listing_more inv.0 c.in_ok-pair.ensures (ap Ok c.in-Some.is) (omega (arith, few, inv.1)) (omega (arith, few, inv.2)),
      simp length-set inv.1,
      simp length-set inv.2,
      simp length-set inv.3,
      simp length-set inv.4,
    )
