-- `join` meets its contract: Read refuses the first file or the second, or their datasets are merged. Assumes nothing.
use Rattle.merge_text.proofs.JoiningLaws.{join_tells, first_refused_lem, second_refused_lem, both_read}
use Rattle.merge_text.proofs.join.Goals as goal

-- the first file is refused
pub returns-in-Err : goal.returns-in-Err
returns-in-Err c =
    let a = c.args in
    let K = first_refused_lem a.first.now a.second.now a.pairs.now c.read_dataset.ensures c.in-Err.is in
    let told = join_tells a.first.now a.second.now a.pairs.now K in
    record { told = told.0; leaves = told.1 }

-- the second is
pub returns-in-Err-read_dataset : goal.returns-in-Err-read_dataset
returns-in-Err-read_dataset c =
    let a = c.args in
    let K = second_refused_lem a.first.now a.second.now a.pairs.now c.read_dataset.ensures c.in_default.is c.read_dataset-2.ensures c.in-Err-read_dataset.is in
    let told = join_tells a.first.now a.second.now a.pairs.now K in
    record { told = told.0; leaves = told.1 }

-- both are read
pub returns : goal.returns
returns c =
    let a = c.args in
    let K = both_read a.first.now a.second.now a.pairs.now c.read_dataset.ensures c.in_default.is c.read_dataset-2.ensures c.in_default-read_dataset.is
    c.join_datasets.ensures in
    let told = join_tells a.first.now a.second.now a.pairs.now K in
    record { told = told.0; leaves = told.1 }
