-- More slots than tides: there is no assignment. Else the slots are laid out and matched. There is no loop. Assumes nothing.
use Rattle.matching.proofs.Answers.{too_few}
use Rattle.matching.proofs.Writing.{sized}
use Rattle.matching.proofs.search.Goals as goal

pub returns-then-blocks-from : goal.returns-then-blocks-from
returns-then-blocks-from c = let b0 = c.from.ensures in too_few _ _ (rw b0 at c.if-blocks-from.true)

pub invariant_of-graph : goal.invariant_of-graph
invariant_of-graph c =
    let room = c.requires in
    let e = c.lay_out.ensures in
    let b0 = c.from.ensures in
    record {
      few_blocks = room.few_blocks;
      laid = e.laid;
      count = e.count;
      sized = sized e.count e.laid c.args.tides.few c.args.tides.able room (rw b0 at c.if-blocks-from.false);
    }
