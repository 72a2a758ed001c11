-- The first i places of the list hold the tide numbers of the first i centres, and the others stay. Assumes nothing.
use Rattle.lists.specs.Lists.{overwrite}
use Rattle.std.specs.Prelude.{◌≡◌, ◌+◌, get_or}
use Rattle.blocking.proofs.front.put_centres.Given as goal

abbrev pub invariant-loop-i : goal.invariant-loop-i
invariant-loop-i l = l.list ≡ overwrite l.i (λ x. get_or l.centres.tides x 0 + 1) l.initial.list
