-- The slots of the first j settings of the block stand behind those that were there. Assumes nothing.
use native.Mathlib.Omega.{arith}
use Rattle.std.proofs.Common.{rules}
use Rattle.matching.proofs.Laying.{part_start, part_room, part_more, part_end}
use Rattle.matching.proofs.slots.Layout.add_block.Goals as goal

pub loop-j-init : goal.loop-j-init
loop-j-init c = part_start (record { owner_long = search rules; kind_long = search rules })

pub add-requires-clause-size_bound : goal.add-requires-clause-size_bound
add-requires-clause-size_bound c =
    let p = c.requires in
    let size = c.from-in-loop-j.ensures in
    let q = part_room c.loop-j.invariant p.b_bound c.loop-j-test.true in omega arith

pub loop-j-preserved : goal.loop-j-preserved
loop-j-preserved c =
    let e = c.add.ensures in part_more c.loop-j.invariant c.requires.b_bound c.from-in-loop-j.ensures e.slots_after e.added

pub returns-clause-added : goal.returns-clause-added
returns-clause-added c =
    let b0 = c.from.ensures in
    part_end c.loop-j.invariant c.requires.b_bound (omega arith) c.loop-j.auto.j-end (omega arith) c.add-2.ensures.added
