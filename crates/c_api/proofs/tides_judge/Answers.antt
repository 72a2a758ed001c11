-- One law for each way out: a list that is too short, a refusal, an answer. Assumes nothing.
use Rattle.std.proofs.Common.{refl, ap, ◌∙◌}
use Rattle.std.specs.Prelude.{Ok}
use Rattle.c_api.proofs.CallLaws.{lacks_yes, record_short, list_short}
use Rattle.c_api.proofs.OutputLaws.{numbers_short, numbers_refused, numbers_done, judge_lent, judge_why, judge_narrow, judge_numbers}
use Rattle.c_api.proofs.tides_judge.Goals as goal

-- the record is too short
pub returns-then-numbers-lt-RECORD_SIZE : goal.returns-then-numbers-lt-RECORD_SIZE
returns-then-numbers-lt-RECORD_SIZE c =
    let told = numbers_short (judge_lent _) 2 _ _ (record_short _ _ c.if-numbers-lt-RECORD_SIZE.true) in
    record { code = told.0; res = told.1 }

-- the result is
pub returns-then-res-lt2 : goal.returns-then-res-lt2
returns-then-res-lt2 c =
    let told = numbers_short (judge_lent _) 2 _ _ (list_short _ (lacks_yes 2 _ c.if-res-lt2.true)) in
    record { code = told.0; res = told.1 }

pub refusal_code-requires : goal.refusal_code-requires
refusal_code-requires c = judge_narrow _ _ _ c.judge.ensures c.in-Err.is

-- refused
pub returns-in-Err : goal.returns-in-Err
returns-in-Err c =
    let told =
    numbers_refused (judge_lent _) 2 _ _
    (record { room = c.if-numbers-lt-RECORD_SIZE.false; enough = c.if-res-lt2.false; held = c.dataset_of.ensures })
    (judge_why _ _ _ c.judge.ensures c.in-Err.is) c.refusal_code.ensures in
    record { code = told.0; res = told.1 }

-- not feasible
pub returns-in-Ok-None : goal.returns-in-Ok-None
returns-in-Ok-None c =
    let told =
    numbers_done (judge_lent _) 2 _ _
    (record { room = c.if-numbers-lt-RECORD_SIZE.false; enough = c.if-res-lt2.false; held = c.dataset_of.ensures })
    (judge_numbers _ _ _ c.judge.ensures (c.in-Ok-None.is ∙ ap Ok c.in-Ok-None.field-0-is) refl) c.copy_front.ensures in
    record { code = told.0; res = told.1 }

-- feasible
pub returns-in-Ok-Some : goal.returns-in-Ok-Some
returns-in-Ok-Some c =
    let told =
    numbers_done (judge_lent _) 2 _ _
    (record { room = c.if-numbers-lt-RECORD_SIZE.false; enough = c.if-res-lt2.false; held = c.dataset_of.ensures })
    (judge_numbers _ _ _ c.judge.ensures (c.in-Ok-Some.is ∙ ap Ok c.in-Ok-Some.field-0-is) refl) c.copy_front-in-Ok-Some.ensures in
    record { code = told.0; res = told.1 }
