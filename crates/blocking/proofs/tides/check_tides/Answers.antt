-- One law for each way out: a refusal of `check`, no tides, and a dataset with a tide in it. Assumes nothing.
use Rattle.lists.proofs.Results.{handed_on}
use Rattle.access.specs.Calls.{nobody}
use Rattle.access.proofs.AccessLaws.{passed}
use Rattle.blocking.proofs.TidesLaws.{tides_refused, tides_none, tides_some}
use Rattle.blocking.proofs.tides.check_tides.Goals as goal

pub returns-in_err-check : goal.returns-in_err-check
returns-in_err-check c = tides_refused (handed_on c.from_residual.ensures.1) c.in_err-check.ensures

pub returns-then-view-lt1 : goal.returns-then-view-lt1
returns-then-view-lt1 c = tides_none (passed _ nobody c.in_ok-check.was c.check.ensures) c.if-view-lt1.true

pub returns : goal.returns
returns c = tides_some (passed _ nobody c.in_ok-check.was c.check.ensures) c.if-view-lt1.false
