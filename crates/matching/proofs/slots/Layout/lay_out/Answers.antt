-- The slots of the first m blocks stand. Assumes nothing.
use Rattle.std.proofs.Common.{rules}
use Rattle.matching.proofs.Laying.{laid_start, laid_more}
use Rattle.matching.proofs.slots.Layout.lay_out.Goals as goal

pub loop-m-init : goal.loop-m-init
loop-m-init c = laid_start c.requires.none (record { owner_long = search rules; kind_long = search rules })

pub loop-m-preserved : goal.loop-m-preserved
loop-m-preserved c = let e = c.add_block.ensures in laid_more c.loop-m.invariant e.slots_after e.added
