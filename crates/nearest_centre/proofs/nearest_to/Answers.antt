-- `best` is the first place of the least of the first m centres' distances, and `least` is that distance. Assumes nothing.
use native.Mathlib.Omega.{arith}
use Rattle.std.proofs.Common.{rules}
use Rattle.nearest_centre.proofs.LeastLaws.{nearest_of}
use Rattle.nearest_centre.proofs.nearest_to.Goals as goal

pub returns-clause-block_value : goal.returns-clause-block_value
returns-clause-block_value c =
    (nearest_of _ c.args.centres.now.inside (search rules) c.requires.t_lt_n (omega arith) c.loop-m.invariant).0

pub returns-clause-distance_value : goal.returns-clause-distance_value
returns-clause-distance_value c =
    (nearest_of _ c.args.centres.now.inside (search rules) c.requires.t_lt_n (omega arith) c.loop-m.invariant).1
