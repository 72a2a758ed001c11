-- `wide_minima` meets its contract: place by place, and each is a byte. Assumes nothing.
use native.Mathlib.Omega.{arith}
use mathlib.Core.Path.{◌≡◌, sym, subst, ◌∙◌}
use lib.ListN.{length, get_or}
use lib.Seq.{ext_get_or}
use Prim.Native.Nat.{ℕ, ◌<◌}
use borrow.Author.Rules.{rules}
use Rattle.metric_closure.specs.Tables.{InRange}
use Rattle.closure_text.proofs.lines.wide_minima.Goals as goal

pub returns : goal.returns
returns c =
    let eight : length c.args.b ≡ 8 = search rules in
    let same : c.map.result ≡ c.args.b =
    ext_get_or 0 _ _ (c.map.ensures.items.long ∙ sym eight) (λ i l.
    let called = c.map.ensures.items.at i 0 0 (omega (arith, c.map.ensures.items.long)) in search rules) in
    let bytes : (i : ℕ) → get_or c.args.b i 0 < 256 = λ i. search rules in
    (same, subst (InRange 8) (sym same) (record { near = λ p l. omega (arith, bytes p) }))
