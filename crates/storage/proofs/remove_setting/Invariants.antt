-- `remove_setting` meets its contract: the loop's invariant: the places before i hold what moves there and the rest is as before, so that what
-- moves to i is still to be read. Assumes nothing.
use Rattle.study.specs.Limits.{max_tides}
use Rattle.storage.specs.Places.{moved_setting}
use Rattle.lists.proofs.Fills.{Filled}
use Rattle.storage.proofs.remove_setting.Given as goal

abbrev pub invariant-loop-i : goal.invariant-loop-i
invariant-loop-i l = Filled max_tides (moved_setting l.initial.settings l.m) l.initial.settings l.settings l.i
