-- `read_tides` meets its contract. The loop's invariant: after as many turns as tides are held, the text stands at this place; 121 less the
-- tides held falls. Assumes nothing.
use native.Mathlib.Omega.{arith}
use mathlib.Core.Path.{refl, ap}
use Rattle.std.specs.Prelude.{Ok}
use Rattle.lists.proofs.Results.{handed_on}
use Rattle.study_text.proofs.ReachedLaws.{held_few}
use Rattle.study_text.proofs.Turns.{midway_size, midway_more, midway_ends, midway_stops}
use Rattle.study_text.proofs.calls.read_tides.Goals as goal

pub returns-in_err-end : goal.returns-in_err-end
returns-in_err-end c = midway_stops c.loop-end.invariant.0 c.in_err-end.ensures (handed_on c.from_residual.ensures.1) refl

pub returns-in-Some : goal.returns-in-Some
returns-in-Some c = midway_ends c.loop-end.invariant.0 c.in_ok-end.ensures (ap Ok c.in-Some.is)

pub loop-end-smaller : goal.loop-end-smaller
loop-end-smaller c =
    let held = c.loop-end.invariant.0 in
    omega (arith, midway_size held c.in_ok-end.ensures (ap Ok c.in_default.is), held_few c.args.rule _ held.alive.held)

pub loop-end-preserved : goal.loop-end-preserved
loop-end-preserved c =
    (midway_more c.loop-end.invariant.0 c.in_ok-end.ensures (ap Ok c.in_default.is), omega arith, omega arith)
