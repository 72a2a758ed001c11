-- `read_head` meets its contract: the start is refused, or the rest answers. Assumes nothing.
use Rattle.std.proofs.Common.{◌∙◌}
use Rattle.std.proofs.lemmas.Result.{err_from_is_err_and}
use Rattle.file_fields.proofs.head.read_head.Goals as goal

-- the start is refused
pub returns-in_err-start : goal.returns-in_err-start
returns-in_err-start c =
    let given = err_from_is_err_and c.from_residual.result c.from_residual.ensures.1 in
    rw (given.1, given.2) (rw c.new-reader.ensures.bytes at (c.read_start.ensures.got.stops c.in_err-start.was))

-- the rest is
pub returns-in_err-dataset : goal.returns-in_err-dataset
returns-in_err-dataset c =
    let passed_on = c.from_residual-in_err-dataset in
    let given = err_from_is_err_and passed_on.result passed_on.ensures.1 in
    let file = c.read_start.ensures.same ∙ c.new-reader.ensures.bytes in
    rw (given.1, given.2) (rw file at (c.read_rest.ensures.got.stops c.in_err-dataset.was))

-- the record is read
pub returns : goal.returns
returns c =
    let file = c.read_start.ensures.same ∙ c.new-reader.ensures.bytes in
    rw file at (c.read_rest.ensures.got.goes c.in_ok-dataset.was)
