-- `is_consistent` meets its contract: the test `consistent` step by step. Assumes nothing.
use Rattle.merge.proofs.SourceLaws.{consistent_first, consistent_second, consistent_by}
use Rattle.merge.proofs.pairs.is_consistent.Goals as goal

pub returns-then-firsts-p : goal.returns-then-firsts-p
returns-then-firsts-p c = consistent_first _ _ _ _ _ _ c.if-firsts-p.true

pub returns-then-seconds-p : goal.returns-then-seconds-p
returns-then-seconds-p c = consistent_second _ _ _ _ _ _ c.if-firsts-p.false c.if-seconds-p.true

pub returns : goal.returns
returns c =
    consistent_by _ _ _ _ _ _ c.if-firsts-p.false c.if-seconds-p.false
    c.tide_of.ensures c.tide_of-2.ensures c.tide_of-3.ensures c.tide_of-4.ensures
    c.distance-x.ensures.0 c.distance-y.ensures.0
