-- `find_rest` meets its contract: the front of the table holds those of the first j tides that are in no pair, as many as count. Assumes nothing.
use Prim.Native.Nat.{◌≤◌, ◌-◌}
use Rattle.merge.specs.Merge.{shared}
use Rattle.merge.specs.Sources.{RestIn}
use Rattle.merge.proofs.rest.find_rest.Given as goal

abbrev pub invariant-loop-j : goal.invariant-loop-j
invariant-loop-j l = RestIn (shared l.firsts l.seconds) l.j l.count l.tides
