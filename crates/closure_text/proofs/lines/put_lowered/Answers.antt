-- `put_lowered` meets its contract: a number with its words, of at most 27 bytes. Assumes nothing.
use native.Mathlib.Omega.{arith}
use Rattle.closure_text.proofs.LineLaws.{lowered_put, lowered_short}
use Rattle.closure_text.proofs.lines.put_lowered.Goals as goal

pub put_named-end-requires : goal.put_named-end-requires
put_named-end-requires c = omega (arith, lowered_short c.args.pairs (omega arith))

pub put_bytes-requires : goal.put_bytes-requires
put_bytes-requires c =
    let short = lowered_short c.args.pairs (omega arith) in
    omega (arith, c.put_named-end.ensures.ends, c.put_named-end.ensures.same)

pub returns : goal.returns
returns c =
    let short = lowered_short c.args.pairs (omega arith) in
    let put = lowered_put c.args.pairs c.put_named-end.ensures c.put_bytes.ensures in
    (omega (arith, c.put_named-end.ensures.ends, c.put_bytes.ensures.ends), put)
