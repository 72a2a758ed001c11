-- `set_minima` meets its contract, both clauses at each exit. Assumes nothing.
use Rattle.std.proofs.lemmas.Bool.{not_from_false, not_from_true}
use Rattle.lists.proofs.Scans.{test_passes, test_fails}
use Rattle.lists.proofs.Results.{handed_on}
use Rattle.access.specs.Calls.{nobody}
use Rattle.access.proofs.AccessLaws.{passed, update_refused}
use Rattle.dataset.specs.Calls.{sets_minima}
use Rattle.dataset.proofs.AnswerLaws.{minima_3, minima_done}
use Rattle.dataset.proofs.set_minima.Goals as goal

-- short memory, or no dataset
pub returns-in_err-check : goal.returns-in_err-check
unfolding sets_minima
returns-in_err-check c =
    let told = update_refused _ _ (handed_on c.from_residual.ensures.1) c.in_err-check.ensures in
    record { answer = told.0; leaves = told.1 }

-- minima that no dataset has
pub returns-then-not-valid_minima : goal.returns-then-not-valid_minima
returns-then-not-valid_minima c =
    let held = passed _ nobody c.in_ok-check.was c.check.ensures in
    let told = minima_3 _ _ held c.understood-taken.ensures (test_fails c.valid_minima.ensures (not_from_false _ c.if-not-valid_minima.true)) in
    record { answer = told.0; leaves = told.1 }

-- other minima
pub returns : goal.returns
returns c =
    let held = passed _ nobody c.in_ok-check.was c.check.ensures in
    let told = minima_done _ _ held c.understood-taken.ensures (test_passes c.valid_minima.ensures (not_from_true _ c.if-not-valid_minima.false)) in
    record { answer = told.0; leaves = told.1 }
