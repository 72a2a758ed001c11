-- `write` meets its contract: what the test of a dataset refuses, Write refuses. Assumes nothing.
use Rattle.lists.proofs.Results.{handed_on}
use Rattle.access.specs.Calls.{nobody}
use Rattle.access.proofs.AccessLaws.{passed}
use Rattle.study_file.proofs.WriteCallLaws.{write_refused}
use Rattle.study_file.proofs.write.Goals as goal

pub write_file-requires : goal.write_file-requires
write_file-requires c = passed _ nobody c.in_ok-check.was c.check.ensures

-- short memory, or no dataset
pub returns-in_err-check : goal.returns-in_err-check
returns-in_err-check c =
    let told = write_refused _ _ (handed_on c.from_residual.ensures.1) c.in_err-check.ensures in
    record { reply = told.0; leaves = told.1 }
