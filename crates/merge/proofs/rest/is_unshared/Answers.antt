-- `is_unshared` meets its contract: none of the pairs passed so far has the tide. Assumes nothing.
use native.Mathlib.Omega.{arith}
use Rattle.lists.proofs.Scans.{every_none, every_more}
use Rattle.merge.proofs.RestLaws.{in_pair, in_none, other_more}
use Rattle.merge.proofs.rest.is_unshared.Goals as goal

pub loop-q-init : goal.loop-q-init
loop-q-init c = every_none _

pub returns-then-tide_of-j : goal.returns-then-tide_of-j
returns-then-tide_of-j c = in_pair _ _ _ c.requires (omega arith) c.tide_of.ensures c.if-tide_of-j.true

pub loop-q-preserved : goal.loop-q-preserved
loop-q-preserved c =
    every_more _ _ c.loop-q.invariant (other_more _ c.tide_of.ensures c.if-tide_of-j.false)

pub returns : goal.returns
returns c = in_none _ _ _ c.requires _ (omega arith) (omega arith) c.loop-q.invariant
