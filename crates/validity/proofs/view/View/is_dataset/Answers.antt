-- `is_dataset` meets its contract: counts of 16 bits are in range, so the study decides. Assumes nothing.
use Prim.Native.Nat.{ℕ}
use native.Mathlib.Omega.{arith}
use mathlib.Core.Path.{◌≡◌, ◌∙◌}
use lib.ListN.{length, get_or}
use mir.Syntax.{w16}
use mir.Val.{Fits}
use borrow.Author.Rules.{rules}
use Rattle.validity.proofs.ValidityLaws.{study_decides}
use Rattle.validity.proofs.view.View.is_dataset.Goals as goal

pub returns : goal.returns
returns c =
    let four : length c.args.self.dataset.withdrawn ≡ 4 = search rules in
    let fits : (i : ℕ) → Fits w16 (get_or c.args.self.dataset.withdrawn i 0) = λ i. search rules in
    c.is_study.ensures ∙ study_decides _ record { four = four; high = λ i l. omega (arith, fits i) }
