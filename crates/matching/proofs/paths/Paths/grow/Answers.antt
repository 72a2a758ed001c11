-- The slots of rank below head are scanned: every tide that they can hold is seen, and none of those is free; slots - head falls, since the
-- queue never holds more than the slots. Assumes nothing.
use mathlib.Core.Path.{refl}
use Rattle.matching.proofs.Turns.{blank_marked, grow_start, grow_none, grow_found}
use Rattle.matching.proofs.paths.Paths.grow.Goals as goal

pub loop-head-init : goal.loop-head-init
loop-head-init c =
    let z = c.args.graph.now.sized in
    let p = c.requires in
    (grow_start z.few_slots z.few_tides p.paired p.tree refl, blank_marked)

pub returns-in-Some-clause-reached : goal.returns-in-Some-clause-reached
returns-in-Some-clause-reached c =
    let z = c.args.graph.now.sized in
    let e = c.in-Some.ensures in
    grow_found z.few_slots z.few_tides c.requires.paired c.loop-head.invariant.0 c.loop-head-test.true e.scanned e.free.0 e.free.1

pub returns-clause-unpairable : goal.returns-clause-unpairable
returns-clause-unpairable c =
    let z = c.args.graph.now.sized in
    grow_none z.few_slots z.few_tides c.requires.paired c.loop-head.invariant.0 c.loop-head-test.false
