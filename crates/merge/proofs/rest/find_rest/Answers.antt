-- `find_rest` meets its contract: the front of the table holds those of the first j tides that are in no pair, as many as count. Assumes nothing.
use Rattle.std.proofs.Common.{arith, rules}
use Rattle.merge.proofs.RestLaws.{rest_none, rest_few, rest_hit, rest_miss}
use Rattle.merge.proofs.rest.find_rest.Goals.{then-is_unshared, else-is_unshared}
use Rattle.merge.proofs.rest.find_rest.Goals as goal

pub loop-j-init : goal.loop-j-init
loop-j-init c = rest_none (search rules)

-- there is room in the table
pub bounds-tides-count : goal.bounds-tides-count
bounds-tides-count c = omega (arith, rest_few c.loop-j.invariant)

pub overflow_add-count : goal.overflow_add-count
overflow_add-count c = omega (arith, rest_few c.loop-j.invariant)

-- tide j is in no pair, or in one
pub loop-j-preserved : goal.loop-j-preserved
loop-j-preserved c =
    let rest = c.loop-j.invariant in
    elim c.if-is_unshared.branch [
      | then-is_unshared w ↦
          rw (w.count-is, w.tides-is) (rest_hit rest c.is_unshared.ensures w.if-is_unshared.true (omega (arith, rest_few rest)))
      | else-is_unshared w ↦ rw (w.count-is, w.tides-is) (rest_miss rest c.is_unshared.ensures w.if-is_unshared.false)
    ]
