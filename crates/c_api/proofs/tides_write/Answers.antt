-- One law for each way out: a list that is too short, a refusal, an answer. Assumes nothing.
use Rattle.std.proofs.Common.{arith}
use Rattle.c_api.proofs.CallLaws.{lacks_yes, record_short, list_short}
use Rattle.c_api.proofs.OutputLaws.{answered_short, answered_refused, answered_one, write_lent, write_why, why_narrow, write_numbers, size_fits}
use Rattle.c_api.proofs.tides_write.Goals as goal

-- the record is too short
pub returns-then-numbers-lt-RECORD_SIZE : goal.returns-then-numbers-lt-RECORD_SIZE
returns-then-numbers-lt-RECORD_SIZE c =
    let told = answered_short (write_lent _) 1 _ _ (record_short _ _ c.if-numbers-lt-RECORD_SIZE.true) in
    record { code = told.0; file = told.1.0; length = told.1.1 }

-- there is no place for the length
pub returns-then-res-lt1 : goal.returns-then-res-lt1
returns-then-res-lt1 c =
    let told = answered_short (write_lent _) 1 _ _ (list_short _ (lacks_yes 1 _ c.if-res-lt1.true)) in
    record { code = told.0; file = told.1.0; length = told.1.1 }

pub refusal_code-requires : goal.refusal_code-requires
refusal_code-requires c = why_narrow _ _ _ c.write.ensures.reply c.in-Err.is

pub overflow_cast-res : goal.overflow_cast-res
overflow_cast-res c = omega (arith, size_fits _ _ _ c.write.ensures.reply c.in-Ok.is)

-- refused
pub returns-in-Err : goal.returns-in-Err
returns-in-Err c =
    let told =
    answered_refused (write_lent _) 1 _ _
    (record { room = c.if-numbers-lt-RECORD_SIZE.false; enough = c.if-res-lt1.false; held = c.dataset_of.ensures })
    c.write.ensures.leaves (write_why _ _ _ c.write.ensures.reply c.in-Err.is) c.refusal_code.ensures in
    record { code = told.0; file = told.1.0; length = told.1.1 }

-- written
pub returns-in-Ok : goal.returns-in-Ok
returns-in-Ok c =
    let told =
    answered_one (write_lent _) _ _
    (record { room = c.if-numbers-lt-RECORD_SIZE.false; enough = c.if-res-lt1.false; held = c.dataset_of.ensures })
    c.write.ensures.leaves (write_numbers _ _ _ c.write.ensures.reply c.in-Ok.is) in
    record { code = told.0; file = told.1.0; length = told.1.1 }
