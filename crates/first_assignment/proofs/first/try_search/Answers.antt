-- The search works on a copy of the list, with a hint for one tide, which is copied back on yes alone. Assumes nothing.
use Rattle.first_assignment.proofs.FirstLaws.{tried_found}
use native.Mathlib.Omega.{arith}
use Rattle.promise.proofs.MeetingLaws.{meeting_upward}
use Rattle.first_assignment.proofs.first.try_search.Goals as goal

pub returns : goal.returns
returns c =
    let found = c.if-not-search.false in
    tried_found (meeting_upward _ _ _) (omega arith) (omega arith) c.search.ensures found c.copy_from_slice-2.ensures.after
