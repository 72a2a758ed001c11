-- No search where no block is left to the tide; otherwise the search's answer is the function's. Assumes nothing.
use Rattle.first_assignment.proofs.FirstLaws.{tried_nowhere}
use Rattle.first_assignment.proofs.first.lower.Goals as goal

pub returns-in_default-clause-search_tried : goal.returns-in_default-clause-search_tried
returns-in_default-clause-search_tried c = tried_nowhere _ c.requires.t_lt_n.0 c.in_default.ensures.none
