-- A record that is too short is refused 1; otherwise the call's own contract, on the record as the code holds it. No loop. Assumes nothing.
use mathlib.Core.Path.{refl}
use Rattle.c_api.proofs.CallLaws.{record_short, read_sound, storable, left_too_short, call_left}
use Rattle.c_api.proofs.tides_read.Goals as goal

pub returns-then-numbers-lt-RECORD_SIZE : goal.returns-then-numbers-lt-RECORD_SIZE
returns-then-numbers-lt-RECORD_SIZE c =
    let told = left_too_short _ _ _ (record_short _ _ c.if-numbers-lt-RECORD_SIZE.true) in
    record { code = told.0; leaves = told.1 }

pub store_answer-requires : goal.store_answer-requires
store_answer-requires c =
    storable _ (read_sound _ _) c.if-numbers-lt-RECORD_SIZE.false (c.read-answer.ensures.answer, c.read-answer.ensures.leaves)

pub returns : goal.returns
returns c =
    let told =
    call_left (record {
      room = c.if-numbers-lt-RECORD_SIZE.false;
      held = c.dataset_of-dataset.ensures;
      settles =
          (c.store_answer.ensures.code, c.store_answer.ensures.numbers);
    }) refl
    (read_sound _ _) (c.read-answer.ensures.answer, c.read-answer.ensures.leaves) in
    record { code = told.0; leaves = told.1 }
