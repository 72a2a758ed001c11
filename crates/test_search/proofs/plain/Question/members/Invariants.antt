-- The count is at most t. Assumes nothing.
use Rattle.std.proofs.Common.{◌≤◌}
use Rattle.test_search.proofs.plain.Question.members.Given as goal

abbrev pub invariant-loop-t : goal.invariant-loop-t
invariant-loop-t l = l.count ≤ l.t
