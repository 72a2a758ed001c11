-- `check` meets its contract: which of the two reasons holds. Assumes nothing.
use Rattle.std.proofs.Common.{refl, sym, ◌∙◌}
use Rattle.study.specs.Refusals.{first_of}
use Rattle.access.specs.Calls.{nobody}
use Rattle.validity.proofs.LayoutLaws.{short_test}
use Rattle.access.proofs.AccessLaws.{held_1, held_21, held_own}
use Rattle.access.proofs.check.Goals as goal

-- the memory is too short
pub returns-then-is_short : goal.returns-then-is_short
returns-then-is_short c = held_1 _ nobody _ (short_test _ c.is_short.ensures.short c.if-is_short.true)

-- it is no dataset
pub returns-then-not-is_dataset : goal.returns-then-not-is_dataset
returns-then-not-is_dataset c =
    let fits = short_test _ c.is_short.ensures.short c.if-is_short.false in
    held_21 _ nobody _ fits refl (sym c.is_dataset.ensures ∙ c.if-not-is_dataset.true)

-- it is one
pub returns : goal.returns
unfolding first_of
returns c =
    let fits = short_test _ c.is_short.ensures.short c.if-is_short.false in
    held_own _ _ fits (sym c.is_dataset.ensures ∙ c.if-not-is_dataset.false)
