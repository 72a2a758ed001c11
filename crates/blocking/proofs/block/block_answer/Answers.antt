-- One law for each way out. Assumes nothing.
use mathlib.Core.Path.{refl, ap, ◌∙◌}
use Rattle.lists.proofs.Results.{handed_on}
use Rattle.study.specs.Refusals.{verdict_of}
use Rattle.study.specs.Calls.{block_reasons}
use Rattle.blocking.specs.Accepted.{block_answer}
use Rattle.blocking.proofs.BlockLaws.{block_25, block_1_list, block_1_records, block_done}
use Rattle.blocking.proofs.block.block_answer.Goals as goal

pub returns-in_err-check_tides : goal.returns-in_err-check_tides
unfolding block_answer block_reasons
returns-in_err-check_tides c = ap verdict_of (handed_on c.from_residual.ensures.1) ∙ c.in_err-check_tides.ensures.refuses _ refl _

pub returns-then-not-ball_meets : goal.returns-then-not-ball_meets
returns-then-not-ball_meets c =
    let first = c.check_tides.ensures in
    let done = c.in_ok-check_tides.was in
    let study = c.study_of-study.ensures in
    let whole = rw (study.met, study.distances) at c.ball_meets.ensures in
    block_25 _ _ _ first done whole (c.if-not-ball_meets.true)

pub returns-then-list-n : goal.returns-then-list-n
returns-then-list-n c =
    let first = c.check_tides.ensures in
    let done = c.in_ok-check_tides.was in
    let study = c.study_of-study.ensures in
    let whole = rw (study.met, study.distances) at c.ball_meets.ensures in
    let meets = c.if-not-ball_meets.false in
    block_1_list _ _ _ first done whole meets c.if-list-n.true

pub returns-then-records-n : goal.returns-then-records-n
returns-then-records-n c =
    let first = c.check_tides.ensures in
    let done = c.in_ok-check_tides.was in
    let study = c.study_of-study.ensures in
    let whole = rw (study.met, study.distances) at c.ball_meets.ensures in
    let meets = c.if-not-ball_meets.false in
    block_1_records _ _ _ first done whole meets c.if-list-n.false c.if-records-n.true

pub returns : goal.returns
returns c =
    let first = c.check_tides.ensures in
    let done = c.in_ok-check_tides.was in
    let study = c.study_of-study.ensures in
    let whole = rw (study.met, study.distances) at c.ball_meets.ensures in
    let meets = c.if-not-ball_meets.false in
    block_done _ _ _ first done whole meets c.if-list-n.false c.if-records-n.false
