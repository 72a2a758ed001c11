-- `check_row` meets its contract: what the search finds in tide t's own part of memory is the answer of tide t. Assumes nothing.
use native.Mathlib.Omega.{arith}
use Rattle.file_fields.proofs.RowLaws.{row_violates, row_obeys}
use Rattle.file_fields.proofs.tides.check_row.Goals as goal

-- a pair was found
pub returns-in-Some : goal.returns-in-Some
returns-in-Some c =
    let args = c.args in
    row_violates args.matrix.now args.t (omega arith) (omega arith) c.first_violation.ensures c.in-Some.is

-- none was
pub returns-in-None : goal.returns-in-None
returns-in-None c =
    let args = c.args in
    row_obeys args.matrix.now args.t (omega arith) (omega arith) c.first_violation.ensures c.in-None.is
