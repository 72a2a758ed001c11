-- `find_violation` meets its contract: the invariant of both loops: nothing is found yet, and all violations are those that are still
-- to come, with lower tide i or later, and in the inner loop, of i, with j or later. Assumes nothing.
use Rattle.std.proofs.Common.{◌≡◌, length, get_or}
use Rattle.study.specs.Limits.{cell}
use Rattle.study.specs.Calls.{violations}
use Rattle.triangle.proofs.PairLaws.{pairs_from, pairs_at}
use Rattle.std.specs.Prelude.{None}
use Rattle.triangle.proofs.find_violation.Given as goal

abbrev pub invariant-loop-j : goal.invariant-loop-j
invariant-loop-j l =
    (l.found ≡ None) ×
    (violations (cell l.distances) (length l.row) (λ i. get_or l.row i 0) ≡ pairs_at l.distances l.row l.i l.j)

abbrev pub invariant-search : goal.invariant-search
invariant-search l =
    (l.found ≡ None) × (violations (cell l.distances) (length l.row) (λ i. get_or l.row i 0) ≡ pairs_from l.distances l.row l.i)
