-- One law for each way out. Assumes nothing.
use native.Mathlib.Omega.{arith}
use mathlib.Core.Path.{refl, sym, ap, ◌∙◌}
use mathlib.Core.Logic.{inl, inr}
use Rattle.lists.proofs.Results.{handed_on}
use Rattle.study.specs.Refusals.{verdict_of}
use Rattle.study.specs.Calls.{centres_reasons}
use Rattle.blocking.proofs.CentresLaws.{centres_1, centres_done}
use Rattle.access.proofs.AccessLaws.{inquiry_answer}
use Rattle.blocking.specs.Calls.{finds_centres}
use Rattle.blocking.proofs.centres.centres_answer.Goals as goal

pub returns-in_err-check_tides : goal.returns-in_err-check_tides
unfolding finds_centres centres_reasons
returns-in_err-check_tides c g =
    ap verdict_of (handed_on c.from_residual.ensures.1) ∙ c.in_err-check_tides.ensures.refuses _ refl _ ∙ sym (inquiry_answer _ _)

pub returns-then-list-n : goal.returns-then-list-n
returns-then-list-n c = centres_1 _ _ c.check_tides.ensures c.in_ok-check_tides.was (inl (omega arith))

pub returns-then-nearest-n : goal.returns-then-nearest-n
returns-then-nearest-n c =
    centres_1 _ _ c.check_tides.ensures c.in_ok-check_tides.was (inr (inl (omega arith)))

pub returns-then-away-n : goal.returns-then-away-n
returns-then-away-n c =
    centres_1 _ _ c.check_tides.ensures c.in_ok-check_tides.was (inr (inr (omega arith)))

pub returns : goal.returns
returns c =
    centres_done _ _ c.check_tides.ensures c.in_ok-check_tides.was (omega arith) (omega arith) (omega arith)
