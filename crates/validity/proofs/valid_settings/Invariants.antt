-- `valid_settings` meets its contract: the settings passed so far are valid. Assumes nothing.
use mathlib.Core.Bool.{true}
use mathlib.Core.Path.{◌≡◌}
use Rattle.lists.specs.Lists.{every}
use Rattle.validity.specs.Memory.{valid_setting}
use Rattle.validity.proofs.valid_settings.Given as goal

abbrev pub invariant-loop-i : goal.invariant-loop-i
invariant-loop-i l = every l.i (valid_setting l.k l.n l.settings) ≡ true
