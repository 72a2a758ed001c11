-- The pairs are a matching, the tide t is free and the slot s can hold it, and s lies on a path back to the root; the rank of s falls.
-- Assumes nothing.
use mathlib.Core.Path.{refl}
use Rattle.matching.proofs.Turns.{shift_again, shift_end}
use Rattle.matching.proofs.pairs.Pairs.shift.Goals as goal

pub loop-o-preserved : goal.loop-o-preserved
loop-o-preserved c =
    let z = c.args.graph.now.sized in
    let e = c.in-Some.ensures in
    shift_again z.few_slots z.few_tides c.loop-o.invariant e.held.0 e.tide_after e.slot_after e.held.1

pub returns : goal.returns
returns c =
    let z = c.args.graph.now.sized in
    let e = c.in_default.ensures in
    shift_end z.few_slots z.few_tides c.loop-o.invariant refl e.tide_after e.slot_after e.free
