-- The matching is left as it is, or the slot gets a free tide that it can hold. Assumes nothing.
use Rattle.matching.proofs.Turns.{given}
use Rattle.matching.proofs.pairs.Pairs.take_next.Goals as goal

pub returns : goal.returns
returns c =
    let p = c.requires in
    let z = c.args.graph.now.sized in
    let e = c.give.ensures in
    let holds = c.can_hold.ensures.holds c.if-not-can_hold.false in
    given z.few_slots z.few_tides p.paired c.if-s-graph.false p.m_lt_max_tides.2 c.if-self-t.false holds e.tide_after e.slot_after
