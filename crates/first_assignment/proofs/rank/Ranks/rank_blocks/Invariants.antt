-- The first m places hold the ranks of the blocks below m. Assumes nothing.
use Prim.Native.Nat.{ℕ, ◌<◌}
use mathlib.Core.Path.{◌≡◌}
use Rattle.lists.specs.Lists.{at}
use Rattle.first_assignment.specs.First.{rank}
use Rattle.first_assignment.proofs.rank.Ranks.rank_blocks.Given as goal

abbrev pub invariant-loop-m : goal.invariant-loop-m
invariant-loop-m l = (l.self.blocks ≡ l.centres.count) × ((k : ℕ) → k < l.m → at l.self.by_block k ≡ rank l.centres.study.distances.now l.centres.tides l.t k)
