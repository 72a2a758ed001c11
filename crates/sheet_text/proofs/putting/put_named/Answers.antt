-- `put_named` meets its contract: words and a field after them. Assumes nothing.
use native.Mathlib.Omega.{arith}
use Rattle.sheet_text.specs.Lines.{named}
use Rattle.sheet_text.proofs.LineLaws.{named_length}
use Rattle.sheet_text.proofs.PuttingLaws.{puts_then}
use Rattle.sheet_text.proofs.putting.put_named.Goals as goal

pub put_bytes-end-requires : goal.put_bytes-end-requires
put_bytes-end-requires c = let a = c.args in omega (arith, named_length a.name.now a.x a.mark)

pub put_field-requires : goal.put_field-requires
put_field-requires c = let a = c.args in omega (arith, named_length a.name.now a.x a.mark)

pub returns : goal.returns
unfolding named
returns c = puts_then c.put_bytes-end.ensures c.put_field.ensures
