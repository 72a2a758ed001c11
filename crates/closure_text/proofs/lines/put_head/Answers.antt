-- `put_head` meets its contract: two lines of numbers below 256. Assumes nothing.
use native.Mathlib.Omega.{arith}
use mathlib.Core.Path.{◌≡◌}
use lib.ListN.{length}
use lib.Seq.{length-take-le}
use borrow.Author.Rules.{rules}
use Rattle.closure_text.proofs.LineLaws.{head_put}
use Rattle.closure_text.proofs.lines.put_head.Goals as goal

pub returns : goal.returns
returns c =
    let row = c.wide_minima-row in
    let long : length row.result ≡ 8 = search rules in
    let short = length-take-le c.args.k row.result (omega arith) in
    let told = rw c.from-settings.ensures at c.put_line.ensures in
    let put =
    head_put c.from.ensures c.from-2.ensures row.ensures.0 c.put_line-after_k.ensures.1
    told.1 in
    (omega (arith, c.put_line-after_k.ensures.0, told.0), put)
