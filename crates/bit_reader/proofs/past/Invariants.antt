-- `bit_reader::past` meets its contract: the loop's invariant: eight times the byte plus the bit stays what it is; the bit falls. Assumes
-- nothing.
use Prim.Native.Nat.{◌+◌, ◌*◌}
use mathlib.Core.Path.{◌≡◌}
use Rattle.bit_reader.proofs.past.Given as goal

abbrev pub invariant-loop-bit : goal.invariant-loop-bit
invariant-loop-bit l = 8 * l.byte + l.bit ≡ 8 * l.initial.byte + l.initial.bit

abbrev pub decreases-loop-bit : goal.decreases-loop-bit
decreases-loop-bit l = l.bit
