-- One law for each way out: a result that is too short, a refusal, an answer. No loop. Assumes nothing.
use native.Mathlib.Omega.{arith}
use Rattle.c_api.proofs.MendLaws.{mend_narrow, pairs_fit, mend_too_short, mend_refused, mend_done}
use Rattle.c_api.proofs.mend.tides_mend.Goals as goal

pub returns-then-res-lt1 : goal.returns-then-res-lt1
returns-then-res-lt1 c =
    let told = mend_too_short _ _ _ c.if-res-lt1.true in
    record { code = told.0; table = told.1.0; res = told.1.1 }

pub refusal_code-requires : goal.refusal_code-requires
refusal_code-requires c = mend_narrow _ _ _ c.close.ensures.answer c.in-Err.is

pub overflow_cast-res : goal.overflow_cast-res
overflow_cast-res c = omega (arith, pairs_fit _ _ _ c.close.ensures.answer c.in-Ok.is)

pub returns-in-Err : goal.returns-in-Err
returns-in-Err c =
    let told =
    mend_refused _ _ _ c.if-res-lt1.false _ c.close.ensures.answer c.close.ensures.leaves
    c.in-Err.is c.refusal_code.ensures in
    record { code = told.0; table = told.1.0; res = told.1.1 }

pub returns-in-Ok : goal.returns-in-Ok
returns-in-Ok c =
    let told =
    mend_done _ _ _ c.if-res-lt1.false _ c.close.ensures.answer c.close.ensures.leaves
    c.in-Ok.is in
    record { code = told.0; table = told.1.0; res = told.1.1 }
