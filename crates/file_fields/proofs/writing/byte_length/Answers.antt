-- `byte_length` meets its contract: the bits, filled up to whole bytes. Assumes nothing.
use native.Mathlib.Omega.{arith}
use Rattle.file_format.specs.File.{byte_length}
use Prim.Native.Nat.{◌+◌, ◌/◌}
use mathlib.Core.Path.{ap}
use Rattle.file_fields.proofs.writing.byte_length.Goals as goal

pub returns : goal.returns
unfolding byte_length
returns c = (ap (λ x. (x + 7) / 8) c.bit_length.ensures.0, omega arith)
