-- One law for each way out: a refusal, a number out of range, a block that falls short, and yes. Assumes nothing.
use native.Mathlib.Omega.{arith}
use Rattle.lists.proofs.Results.{handed_on}
use Rattle.blocking.proofs.JudgeLaws.{judge_accepted, judge_refused, judge_number, judge_few, judge_yes}
use Rattle.blocking.proofs.judge.judge.Goals as goal

pub returns-in_err-judge_answer : goal.returns-in_err-judge_answer
returns-in_err-judge_answer c = judge_refused _ _ (handed_on c.from_residual.ensures.1) c.in_err-judge_answer.ensures

pub study_of-requires : goal.study_of-requires
study_of-requires c =
    let A = judge_accepted _ _ c.in_ok-judge_answer.was c.judge_answer.ensures in
    A.passed

pub invariant_of-proposal : goal.invariant_of-proposal
invariant_of-proposal c =
    let A = judge_accepted _ _ c.in_ok-judge_answer.was c.judge_answer.ensures in
    omega (arith, A.long, c.study_of.ensures.n)

pub returns-then-not-numbers_valid : goal.returns-then-not-numbers_valid
returns-then-not-numbers_valid c =
    let A = judge_accepted _ _ c.in_ok-judge_answer.was c.judge_answer.ensures in
    let study = c.study_of.ensures in
    judge_number _ _ A (rw study.n at c.numbers_valid.ensures) (c.if-not-numbers_valid.true)

pub returns-then-not-blocks_meet : goal.returns-then-not-blocks_meet
returns-then-not-blocks_meet c =
    let A = judge_accepted _ _ c.in_ok-judge_answer.was c.judge_answer.ensures in
    let valid = c.if-not-numbers_valid.false in
    let study = c.study_of.ensures in
    judge_few _ _ A (rw study.n at c.numbers_valid.ensures) valid (rw (study.met, study.n) at c.blocks_meet.ensures) (c.if-not-blocks_meet.true)

pub returns : goal.returns
returns c =
    let A = judge_accepted _ _ c.in_ok-judge_answer.was c.judge_answer.ensures in
    let valid = c.if-not-numbers_valid.false in
    let meet = c.if-not-blocks_meet.false in
    let study = c.study_of.ensures in
    judge_yes _ _ A (rw study.n at c.numbers_valid.ensures) valid (rw (study.met, study.n) at c.blocks_meet.ensures) meet
    (rw (study.n, study.distances) at c.widest.ensures)
