-- `agree` meets its contract: the pairs passed so far agree. Assumes nothing.
use Prim.Native.Nat.{◌≤◌, ◌-◌}
use mathlib.Core.Path.{◌≡◌}
use mathlib.Core.Bool.{true}
use lib.ListN.{length}
use Rattle.lists.specs.Lists.{every}
use Rattle.validity.specs.View.{seen}
use Rattle.merge.specs.Merge.{agreeing}
use Rattle.merge.specs.Lent.{of_studies}
use Rattle.merge.proofs.pairs.agree.Given as goal

abbrev pub invariant-loop-q : goal.invariant-loop-q
invariant-loop-q l = every l.q (of_studies agreeing l.sources) ≡ true
