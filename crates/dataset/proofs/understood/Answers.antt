-- `understood` meets its contract: one law for each way out. Assumes nothing.
use native.Mathlib.Omega.{arith}
use Rattle.study.proofs.MinimaLaws.{understood_zero, understood_enough}
use Rattle.dataset.proofs.AnswerLaws.{tested_understood, tested_raised}
use Rattle.dataset.proofs.understood.Goals as goal

pub returns-then-b0-lt1 : goal.returns-then-b0-lt1
returns-then-b0-lt1 c =
    tested_understood _ c.sum_minima-sum.ensures c.if-sum-gt-MAX_TIDES.false (understood_zero _ c.if-b0-lt1.true)

pub returns-then-sum-from : goal.returns-then-sum-from
returns-then-sum-from c =
    let sum = c.sum_minima-sum.ensures in
    tested_understood _ sum c.if-sum-gt-MAX_TIDES.false (understood_enough _ (omega (arith, sum, c.from.ensures)))

pub returns : goal.returns
returns c =
    tested_raised _ c.sum_minima-sum.ensures c.if-sum-gt-MAX_TIDES.false c.if-b0-lt1.false (omega (arith, c.from.ensures))
