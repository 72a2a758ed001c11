-- The ends of the search: no matching gives every slot a tide, or one does and a tide may go nowhere, or the list is written. There is no loop.
-- Assumes nothing.
use Rattle.matching.proofs.Answers.{unsaturable, listed, no_place}
use Rattle.matching.proofs.Turns.{blank_matching}
use Rattle.matching.proofs.Writing.{owned}
use Rattle.matching.proofs.match_slots.Goals as goal
use Rattle.matching.proofs.match_slots.Goals.{else-saturate-via-then-saturate+else-write_list, else-saturate-via-else-saturate}

pub start-requires-clause-paired : goal.start-requires-clause-paired
start-requires-clause-paired c = let z = c.args.graph.now.sized in blank_matching z.few_slots z.few_tides

pub write_list-requires-clause-by_index : goal.write_list-requires-clause-by_index
write_list-requires-clause-by_index c =
    let g = c.args.graph.now in
    owned g.count g.laid (c.saturate.ensures.saturated c.if-saturate.true).matching

pub returns-then-write_list : goal.returns-then-write_list
returns-then-write_list c =
    let g = c.args.graph.now in
    let e = c.write_list.ensures in
    listed g.tides.able g.count g.laid (c.saturate.ensures.saturated c.if-saturate.true) (e.written c.if-write_list.true) e.rest

pub returns : goal.returns
returns c =
    let g = c.args.graph.now in
    let kept = c.write_partial.ensures in
    elim c.else-saturate.branch [
      | else-saturate-via-then-saturate+else-write_list w ↦
          let e = w.write_list.ensures in
          no_place _ _ (e.none w.if-write_list.false) e.rest (rw w.list-is at kept)
      | else-saturate-via-else-saturate w ↦
          unsaturable g.tides.able g.count g.laid (c.saturate.ensures.unpairable w.if-saturate.false) (rw w.list-is at kept)
    ]
