-- `copy_front` meets its contract: the first places hold what the other list holds there, and the rest is as before. Assumes nothing.
use Rattle.std.proofs.Common.{◌≡◌, ◌++◌, take, drop}
use Rattle.storage.proofs.copy_front.Given as goal

abbrev pub invariant-loop-place : goal.invariant-loop-place
invariant-loop-place g l = l.places ≡ take l.place l.from ++ drop l.place l.initial.places
