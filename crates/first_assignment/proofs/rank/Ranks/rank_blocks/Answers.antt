-- The first m places hold the ranks of the blocks below m. Assumes nothing.
use native.Mathlib.Omega.{arith}
use borrow.Author.Count.{below_more}
use Prim.Native.Nat.{◌<◌}
use lib.ListN.{length}
use mathlib.Core.Path.{◌∙◌}
use lib.Seq.{get_or-set_same, get_or-set_other}
use Rattle.first_assignment.specs.First.{rank}
use Rattle.first_assignment.proofs.rank.Ranks.rank_blocks.Goals as goal

pub loop-m-preserved : goal.loop-m-preserved
unfolding rank
loop-m-preserved c =
    let ranks = c.loop-m.self.by_block in
    let m = c.loop-m.m in
    let few = c.args.centres.now.inside.few in
    let before = c.loop-m.invariant in
    let inside : m < length ranks = omega arith in (
      before.0,
      below_more _ _ (λ k h. get_or-set_other ranks m k c.rank_of.result 0 (λ e. omega arith) ∙ before.1 k h)
          (get_or-set_same ranks m c.rank_of.result 0 inside ∙ rw c.distance.ensures at c.rank_of.ensures),
    )
