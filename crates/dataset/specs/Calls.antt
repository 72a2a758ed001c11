-- Open, Minima, Enter and Withdraw, each as one value: its own reasons for a refusal, and what it brings in or makes of what is held; what it
-- answers and leaves is said of every call in access. Assumes nothing.
use Rattle.std.specs.Prelude.{ℕ, List}
use Rattle.study.specs.declared.Minima.{Minima}
use Rattle.study.specs.Calls.{open_reasons, opening, minima_reasons, setting_minima, enter_reasons, entering, withdraw_reasons, withdrawing}
use Rattle.access.specs.Calls.{on_contents, nobody, the_user, Call, begins, changes}

-- Open, with this number of settings
unfoldable pub opens_dataset : ℕ → Call
opens_dataset k = begins (record { own = open_reasons k; brings = opening k })

-- Minima
unfoldable pub sets_minima : Minima → Call
sets_minima M = changes (record { caller = nobody; own = λ H. minima_reasons H.contents.study M; makes = on_contents (setting_minima M) })

-- Enter, of a tide with this setting and this row of distances
unfoldable pub enters_tide : ℕ → List ℕ → Call
enters_tide setting row =
    changes (record { caller = nobody; own = λ H. enter_reasons H.contents.study setting row; makes = on_contents (entering setting row) })

-- Withdraw, by user u, of tide t
unfoldable pub withdraws_tide : ℕ → ℕ → Call
withdraws_tide u t = changes (record { caller = the_user u; own = λ H. withdraw_reasons H.contents u t; makes = on_contents (withdrawing u t) })
