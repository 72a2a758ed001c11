-- `put_field` meets its contract: a number and a byte after it. Assumes nothing.
use native.Mathlib.Omega.{arith}
use Rattle.sheet_text.specs.Lines.{field}
use Rattle.sheet_text.proofs.LineLaws.{field_length}
use Rattle.sheet_text.proofs.PuttingLaws.{puts_then}
use Rattle.sheet_text.proofs.putting.put_field.Goals as goal

pub put_number-end-requires : goal.put_number-end-requires
put_number-end-requires c = let a = c.args in omega (arith, field_length a.x a.mark)

pub put_byte-requires : goal.put_byte-requires
put_byte-requires c = let a = c.args in omega (arith, field_length a.x a.mark)

pub returns : goal.returns
unfolding field
returns c = puts_then c.put_number-end.ensures c.put_byte.ensures
