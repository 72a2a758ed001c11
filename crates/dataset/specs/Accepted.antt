-- Inner promises of the calls: what a call may rely on once it is accepted. Assumes nothing.
use Rattle.std.specs.Prelude.{ℕ, ◌≤◌, ◌<◌, ◌≡◌, cond, List, leb, length}
use Rattle.study.specs.Limits.{max_tides, max_users, max_withdrawals}
use Rattle.study.specs.declared.Minima.{Minima}
use Rattle.study.specs.Calls.{sum_of_parts, understood, entering, count_of, withdrawing}
use Rattle.validity.specs.Memory.{State, contents_of, stored}
use Rattle.access.specs.Calls.{after}
use Rattle.access.specs.Passed.{Passed}
use Rattle.dataset.specs.Calls.{enters_tide, withdraws_tide}

-- the record that Minima tests: as understood, but as given where the b's are together above 120; then it is refused either way
abbrev pub tested_minima : Minima → Minima
tested_minima M = cond (leb (sum_of_parts M) max_tides) (understood M) M

-- what an accepted Enter tells
pub record EnterAccepted (s : State) (setting : ℕ) (row : List ℕ) : Type 0 where
  pub passed : Passed s
  pub room : s.dataset.n < max_tides
  pub length_is : length row ≡ s.dataset.n
  pub leaves : stored (entering setting row (contents_of s)) s ≡ after s (enters_tide setting row)

-- what an accepted Withdraw by user u tells
pub record WithdrawAccepted (s : State) (u t : ℕ) : Type 0 where
  pub passed : Passed s
  pub user_low : 1 ≤ u
  pub user_high : u ≤ max_users
  pub low : 1 ≤ t
  pub high : t ≤ s.dataset.n
  pub countable : count_of s.dataset.withdrawn u < max_withdrawals
  pub leaves : stored (withdrawing u t (contents_of s)) s ≡ after s (withdraws_tide u t)
