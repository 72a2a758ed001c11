-- The settings of the tides below t are 1 to 8. Assumes nothing.
use Rattle.std.proofs.Common.{ℕ, ◌<◌, get_or}
use Rattle.test_search.specs.Ranges.{Between}
use Rattle.test_search.proofs.valid.Given as goal

abbrev pub invariant-loop-t : goal.invariant-loop-t
invariant-loop-t l = (k : ℕ) → k < l.t → Between 1 8 (get_or l.settings k 0)
