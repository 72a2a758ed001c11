-- The first t places hold the blocks' numbers; the rest is as it was. Assumes nothing.
use Rattle.lists.proofs.Fills.{Filled}
use Rattle.study.specs.Problem.{labels}
use Prim.Native.Nat.{◌+◌}
use Rattle.blocking_core.proofs.kernel.number.Given as goal

abbrev pub invariant-loop-t : goal.invariant-loop-t
invariant-loop-t l = Filled l.n (λ x. labels l.blocks x + 1) l.initial.list l.list l.t
