-- A list that is too short is refused 1; otherwise the call's own contract, on the record as the code holds it. No loop. Assumes nothing.
use mathlib.Core.Path.{refl}
use Rattle.dataset.specs.Calls.{sets_minima}
use Rattle.narrowing.proofs.Proofs.{as_given}
use Rattle.c_api.proofs.CallLaws.{lacks_yes, lacks_no, record_short, list_short, minima_sound, storable, left_too_short, call_left}
use Rattle.c_api.proofs.tides_minima.Goals as goal

pub returns-then-numbers-lt-RECORD_SIZE : goal.returns-then-numbers-lt-RECORD_SIZE
returns-then-numbers-lt-RECORD_SIZE c =
    let told = left_too_short _ _ _ (record_short _ _ c.if-numbers-lt-RECORD_SIZE.true) in
    record { code = told.0; leaves = told.1 }

pub returns-then-minima-lt9 : goal.returns-then-minima-lt9
returns-then-minima-lt9 c =
    let told = left_too_short _ _ _ (list_short _ (lacks_yes 9 _ c.if-minima-lt9.true)) in
    record { code = told.0; leaves = told.1 }

pub store_answer-requires : goal.store_answer-requires
store_answer-requires c =
    storable _ (minima_sound _ _) c.if-numbers-lt-RECORD_SIZE.false (c.set_minima-answer.ensures.answer, c.set_minima-answer.ensures.leaves)

pub returns : goal.returns
returns c =
    let told =
    call_left (record {
      room = c.if-numbers-lt-RECORD_SIZE.false;
      held = c.dataset_of-dataset.ensures;
      settles =
          (c.store_answer.ensures.code, c.store_answer.ensures.numbers);
    })
    (lacks_no 9 _ c.if-minima-lt9.false) (minima_sound _ _)
    (as_given _ sets_minima _ c.minima_of.ensures (refl, refl) (c.set_minima-answer.ensures.answer, c.set_minima-answer.ensures.leaves)) in
    record { code = told.0; leaves = told.1 }
