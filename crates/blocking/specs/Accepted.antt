-- What an accepted call tells; the function that computes or writes requires it. Assumes nothing.
use Rattle.std.specs.Prelude.{◌≡◌, ℕ, ◌<◌, ◌≤◌, true, T, List, ◌∷◌, length, nat_eq, Result, Ok, Err}
use Rattle.study.specs.declared.Refusal.{Refusal}
use Rattle.study.specs.Study.{Study, size, sufficient}
use Rattle.study.specs.Refusals.{Reason, ◌⇒◌, number, Verdict, accepted, verdict_of}
use Rattle.study.specs.Calls.{CentreLists, block_reasons}
use Rattle.validity.specs.Memory.{State, study_of}
use Rattle.access.specs.Calls.{Holding, nobody, answer}
use Rattle.access.specs.Passed.{Passed, held_answer}
use Rattle.blocking.specs.Calls.{finds_centres}

-- the reason that Centres, Block and Judge give first: there are no tides
abbrev pub no_tides : Study → Reason
no_tides S = nat_eq (size S) 0 ⇒ number 24

-- what `check_tides` answers: a refusal is that of every call whose own reasons begin with no_tides; Ok tells that there is a dataset
-- with a tide in it
pub record TidesChecked (s : State) (r : Result Unit Refusal) : Type 0 where
  pub refuses : (x : Refusal) → r ≡ Err x → (own : Holding → List Reason)
      → verdict_of r ≡ held_answer s nobody (λ H. no_tides H.contents.study ∷ own H)
  pub passed : {u : Unit} → r ≡ Ok u → Passed s
  pub some_tide : {u : Unit} → r ≡ Ok u → 1 ≤ s.dataset.n

-- the answer of Block, lent a list and records of these lengths
unfoldable pub block_answer : State → ℕ → ℕ → Verdict
block_answer s list room = held_answer s nobody (λ H. block_reasons H.contents.study list room)

-- what an accepted Block tells, lent a list and records of these lengths
pub record BlockAccepted (s : State) (list room : ℕ) : Type 0 where
  pub passed : Passed s
  pub some_tide : 0 < s.dataset.n
  pub enough : T (sufficient (study_of s) (λ t. true))
  pub list_room : s.dataset.n ≤ list
  pub record_room : s.dataset.n ≤ room
  pub answer : accepted ≡ block_answer s list room

-- what an accepted Centres tells
pub record CentresAccepted (s : State) (l : CentreLists) : Type 0 where
  pub passed : Passed s
  pub some_tide : 0 < s.dataset.n
  pub list_room : s.dataset.n ≤ length l.list
  pub nearest_room : s.dataset.n ≤ length l.nearest
  pub away_room : s.dataset.n ≤ length l.away
  pub answer : (g : ℕ) → accepted ≡ answer s (finds_centres g l)
