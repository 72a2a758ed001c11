-- `all_consistent` meets its contract: the pair is consistent with those passed so far. Assumes nothing.
use Prim.Native.Nat.{◌≤◌, ◌-◌}
use mathlib.Core.Path.{◌≡◌}
use mathlib.Core.Bool.{true}
use Rattle.lists.specs.Lists.{every}
use Rattle.validity.specs.View.{seen}
use Rattle.merge.specs.Merge.{consistent}
use Rattle.merge.specs.Lent.{of_studies}
use Rattle.merge.proofs.pairs.all_consistent.Given as goal

abbrev pub invariant-loop-p : goal.invariant-loop-p
invariant-loop-p l = every l.p (of_studies consistent l.sources l.q) ≡ true
