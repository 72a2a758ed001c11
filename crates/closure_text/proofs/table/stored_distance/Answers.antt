-- `stored_distance` meets its contract: the later tide's row, or 0. Assumes nothing.
use Rattle.closure_text.proofs.RowLaws.{earlier_cell, later_cell, own_cell}
use Rattle.closure_text.proofs.table.stored_distance.Goals as goal

pub returns-then-i-j : goal.returns-then-i-j
returns-then-i-j c = earlier_cell _ _ _ c.if-i-j.true

pub returns-then-j-i : goal.returns-then-j-i
returns-then-j-i c = later_cell _ _ _ c.if-j-i.true

pub returns : goal.returns
returns c = own_cell _ _ _ c.if-i-j.false c.if-j-i.false
