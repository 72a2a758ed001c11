-- `minima_of` meets its contract: place by place. Assumes nothing.
use native.Mathlib.Omega.{arith}
use borrow.Author.Rules.{rules}
use Rattle.study_text.proofs.CallLaws.{minima_bytes}
use Rattle.study_text.proofs.calls.minima_of.Goals as goal

pub returns : goal.returns
returns c =
    minima_bytes c.args.xs _ _ c.narrow.ensures c.from_fn.ensures.items.long
    (λ j l. let called = c.from_fn.ensures.items.at j 0 (omega (arith, c.from_fn.ensures.items.long)) in search rules)
