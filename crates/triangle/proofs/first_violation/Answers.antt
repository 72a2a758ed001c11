-- `first_violation` meets its contract: a row without flags has no violation, and else the search finds the first. Assumes nothing.
use Rattle.triangle.proofs.PrefilterLaws.{obeys_found}
use Rattle.triangle.proofs.first_violation.Goals as goal

pub returns-then-prefilter : goal.returns-then-prefilter
returns-then-prefilter c = obeys_found _ _ (c.prefilter.ensures.rule c.if-prefilter.true)
