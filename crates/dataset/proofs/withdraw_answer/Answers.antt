-- `withdraw_answer` meets its contract: which of Withdraw's own reasons holds. Assumes nothing.
use Rattle.std.proofs.Common.{arith}
use Rattle.lists.proofs.Scans.{between_in, between_low, between_high}
use Rattle.validity.specs.View.{seen}
use Rattle.dataset.proofs.AnswerLaws.{withdraw_23, withdraw_26, withdraw_done}
use Rattle.dataset.proofs.withdraw_answer.Goals as goal

-- no tide's number
pub returns-then-tide-lt1 : goal.returns-then-tide-lt1
returns-then-tide-lt1 c = withdraw_23 _ _ _ c.requires (between_low 1 _ _ c.if-tide-lt1.true)

pub returns-then-n-from : goal.returns-then-n-from
returns-then-n-from c = withdraw_23 _ _ _ c.requires (between_high 1 (seen c.args.view).dataset.n c.args.tide (omega (arith, c.from.ensures)))

-- the user has withdrawn too many
pub returns-then-withdrawn-user-ge-MAX_WITHDRAWALS : goal.returns-then-withdrawn-user-ge-MAX_WITHDRAWALS
returns-then-withdrawn-user-ge-MAX_WITHDRAWALS c =
    withdraw_26 _ _ _ c.requires (between_in 1 (seen c.args.view).dataset.n c.args.tide c.if-tide-lt1.false (omega (arith, c.from.ensures)))
    c.if-withdrawn-user-ge-MAX_WITHDRAWALS.true

-- none holds
pub returns : goal.returns
returns c =
    withdraw_done _ _ _ c.requires (between_in 1 (seen c.args.view).dataset.n c.args.tide c.if-tide-lt1.false (omega (arith, c.from.ensures)))
    c.if-withdrawn-user-ge-MAX_WITHDRAWALS.false
