-- A record that is too short, of any of the three, is refused 1; otherwise the merge's own contract, on the records as the code holds them. No loop.
-- Assumes nothing.
use Rattle.c_api.proofs.CallLaws.{record_short, list_short, merge_sound, storable, left_too_short, call_left}
use Rattle.c_api.proofs.MergeLaws.{first_lacks, second_lacks, neither_lacks, merge_given}
use Rattle.c_api.proofs.merging.tides_merge.Goals as goal

-- the third's record
pub returns-then-numbers-lt-RECORD_SIZE : goal.returns-then-numbers-lt-RECORD_SIZE
returns-then-numbers-lt-RECORD_SIZE c =
    let told = left_too_short _ _ _ (record_short _ _ c.if-numbers-lt-RECORD_SIZE.true) in
    record { code = told.0; leaves = told.1 }

-- the third's record
pub returns-then-n1-lt-RECORD_SIZE : goal.returns-then-n1-lt-RECORD_SIZE
returns-then-n1-lt-RECORD_SIZE c =
    let told = left_too_short _ _ _ (list_short _ (first_lacks _ _ c.if-n1-lt-RECORD_SIZE.true)) in
    record { code = told.0; leaves = told.1 }

-- the first's
pub returns-then-n2-lt-RECORD_SIZE : goal.returns-then-n2-lt-RECORD_SIZE
returns-then-n2-lt-RECORD_SIZE c =
    let told =
    left_too_short _ _ _ (list_short _ (second_lacks _ _ c.if-n1-lt-RECORD_SIZE.false c.if-n2-lt-RECORD_SIZE.true)) in
    record { code = told.0; leaves = told.1 }

-- the second's
pub store_answer-requires : goal.store_answer-requires
store_answer-requires c =
    storable _ (merge_sound _ _ _ _ _) c.if-numbers-lt-RECORD_SIZE.false (c.merge-answer.ensures.answer, c.merge-answer.ensures.leaves)

pub returns : goal.returns
returns c =
    let told =
    call_left (record {
      room = c.if-numbers-lt-RECORD_SIZE.false;
      held = c.dataset_of-dataset.ensures;
      settles =
          (c.store_answer.ensures.code, c.store_answer.ensures.numbers);
    })
    (neither_lacks _ _ c.if-n1-lt-RECORD_SIZE.false c.if-n2-lt-RECORD_SIZE.false) (merge_sound _ _ _ _ _)
    (merge_given _ _ _ _ _ c.dataset_of.ensures c.dataset_of-2.ensures (c.merge-answer.ensures.answer, c.merge-answer.ensures.leaves)) in
    record { code = told.0; leaves = told.1 }
