-- One law for each way out: a list that is too short, a refusal, an answer. Assumes nothing.
use Rattle.std.proofs.Common.{arith}
use Rattle.c_api.proofs.CallLaws.{lacks_yes, record_short, list_short}
use Rattle.c_api.proofs.OutputLaws.{answered_short, answered_refused, answered_one, centres_lent, centres_why, centres_why_narrow, count_told, count_fits}
use Rattle.c_api.proofs.tides_centres.Goals as goal

-- the record is too short
pub returns-then-numbers-lt-RECORD_SIZE : goal.returns-then-numbers-lt-RECORD_SIZE
returns-then-numbers-lt-RECORD_SIZE c =
    let told = answered_short (centres_lent _ _) 1 _ _ (record_short _ _ c.if-numbers-lt-RECORD_SIZE.true) in
    record { code = told.0; lists = told.1.0; count = told.1.1 }

-- there is no place for the number of centres
pub returns-then-count-lt1 : goal.returns-then-count-lt1
returns-then-count-lt1 c =
    let told = answered_short (centres_lent _ _) 1 _ _ (list_short _ (lacks_yes 1 _ c.if-count-lt1.true)) in
    record { code = told.0; lists = told.1.0; count = told.1.1 }

pub refusal_code-requires : goal.refusal_code-requires
refusal_code-requires c = centres_why_narrow _ _ _ _ c.centres_into.ensures.answer c.in-Err.is

pub overflow_cast-count : goal.overflow_cast-count
overflow_cast-count c = omega (arith, count_fits _ _ _ _ c.centres_into.ensures.answer c.in-Ok.is)

-- refused
pub returns-in-Err : goal.returns-in-Err
returns-in-Err c =
    let told =
    answered_refused (centres_lent _ _) 1 _ _
    (record { room = c.if-numbers-lt-RECORD_SIZE.false; enough = c.if-count-lt1.false; held = c.dataset_of.ensures })
    c.centres_into.ensures.lists (centres_why _ _ _ _ c.centres_into.ensures.answer c.in-Err.is) c.refusal_code.ensures in
    record { code = told.0; lists = told.1.0; count = told.1.1 }

-- answered
pub returns-in-Ok : goal.returns-in-Ok
returns-in-Ok c =
    let told =
    answered_one (centres_lent _ _) _ _
    (record { room = c.if-numbers-lt-RECORD_SIZE.false; enough = c.if-count-lt1.false; held = c.dataset_of.ensures })
    c.centres_into.ensures.lists (count_told _ _ _ _ c.centres_into.ensures.answer c.in-Ok.is) in
    record { code = told.0; lists = told.1.0; count = told.1.1 }
