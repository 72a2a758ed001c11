-- What the core tells of its rows is what Block answers and leaves. There is no loop. Assumes nothing.
use Rattle.blocking.proofs.BlockLaws.{accepted_valid_arrays, block_value, block_rows, block_list}
use Rattle.blocking.proofs.computing.compute.Goals as goal

pub invariant_of-problem-clause-valid : goal.invariant_of-problem-clause-valid
invariant_of-problem-clause-valid c =
    let study = c.study_of.ensures in
    rw (study.met, study.n, study.distances) (accepted_valid_arrays _ _ _ c.requires)

pub returns-clause-lending : goal.returns-clause-lending
returns-clause-lending c =
    let study = c.study_of.ensures in
    block_value _ _ _ c.requires (rw (study.met, study.n, study.distances) at c.block_rows-rows.ensures.blocks)

pub returns-clause-rows_of : goal.returns-clause-rows_of
returns-clause-rows_of c =
    let study = c.study_of.ensures in
    block_rows _ _ _ c.requires (rw (study.met, study.n, study.distances) at c.block_rows-rows.ensures.blocks) _ c.put_centres.ensures

pub returns-clause-lending_2 : goal.returns-clause-lending_2
returns-clause-lending_2 c =
    let study = c.study_of.ensures in
    block_list _ _ _ c.requires (rw (study.met, study.n, study.distances) at c.block_rows-rows.ensures.list_after)
