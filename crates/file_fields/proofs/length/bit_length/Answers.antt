-- `bit_length` meets its contract: no difference goes below zero and no product wraps, by what 120 tides take at most. Assumes nothing.
use native.Mathlib.Omega.{arith}
use Rattle.file_fields.proofs.Lengths.{length_sum}
use Rattle.file_fields.proofs.length.bit_length.Goals as goal

pub returns : goal.returns
returns c = let s = length_sum c.args.counts c.args.k c.args.n c.requires.0 c.requires.1 c.requires.2 in (s.is, omega arith)
