-- `check_user` meets its contract: short memory, then the user, then what `check` ensures. Assumes nothing.
use mathlib.Core.Path.{◌∙◌}
use Rattle.validity.proofs.LayoutLaws.{short_test}
use Rattle.access.proofs.AccessLaws.{user_1, user_14, user_passes}
use Rattle.std.proofs.lemmas.Bool.{not_from_false, not_from_true}
use Rattle.access.proofs.check_user.Goals as goal

pub returns-then-is_short : goal.returns-then-is_short
returns-then-is_short c = user_1 _ _ (short_test _ c.is_short.ensures.short c.if-is_short.true)

pub returns-then-not-is_user : goal.returns-then-not-is_user
returns-then-not-is_user c =
    user_14 _ _ (short_test _ c.is_short.ensures.short c.if-is_short.false) c.is_user.ensures (not_from_false _ c.if-not-is_user.true)

pub returns : goal.returns
returns c =
    c.check.ensures
    ∙ user_passes _ _ (short_test _ c.is_short.ensures.short c.if-is_short.false) c.is_user.ensures (not_from_true _ c.if-not-is_user.false)
