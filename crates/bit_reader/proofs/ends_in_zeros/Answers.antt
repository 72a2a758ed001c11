-- `bit_reader::ends_in_zeros` meets its contract: no bits, or those of the last byte, cut out of it. Assumes nothing.
use native.Mathlib.Omega.{arith}
use mathlib.Core.Path.{ap}
use lib.Dec.{eqb}
use Rattle.bit_reader.proofs.FieldLaws.{no_bits, last_bits}
use Rattle.bit_reader.proofs.ends_in_zeros.Goals as goal

-- the width is 0
pub returns-then-width-eq0 : goal.returns-then-width-eq0
returns-then-width-eq0 c = let args = c.args in no_bits args.bytes.now _ args.width c.if-width-eq0.true

-- the last byte is looked at
pub returns : goal.returns
returns c =
    let args = c.args in
    ap (λ x. eqb x 0)
    (last_bits args.bytes.now (λ i. (c.type_inv.bytes i).fits) args.width (omega arith) (omega arith)
    c.from-last.result c.from-last.ensures)
