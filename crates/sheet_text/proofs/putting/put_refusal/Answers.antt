-- `put_refusal` meets its contract: the number of the refusal after its word, of at most 19 bytes. Assumes nothing.
use native.Mathlib.Omega.{arith}
use Rattle.study.specs.Refusals.{numbered}
use Rattle.sheet_text.proofs.LineLaws.{refused_short, refused_put}
use Rattle.sheet_text.proofs.putting.put_refusal.Goals as goal

pub put_named-requires : goal.put_named-requires
put_named-requires c = omega (arith, refused_short c.number.result (omega (arith, c.number.type_inv)))

pub returns : goal.returns
returns c =
    let n = c.number in
    let p = refused_put (numbered c.args.why) n.ensures c.put_named.ensures in
    (omega (arith, p.ends, refused_short n.result (omega (arith, n.type_inv))), p)
