-- `nearer_pairs` meets its contract: the pairs whose later tide is passed. Assumes nothing.
use Rattle.metric_closure.proofs.TableLaws.{PairsTo}
use Rattle.metric_closure.proofs.counting.nearer_pairs.Given as goal

abbrev pub invariant-loop-i : goal.invariant-loop-i
invariant-loop-i l = PairsTo l.new.n l.new.places.now l.old.places.now l.i l.total
