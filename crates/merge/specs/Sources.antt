-- Inner promises: what the functions of a merge may rely on, and what they find. Assumes nothing.
use Rattle.std.specs.Prelude.{ℕ, ◌+◌, ◌≤◌, ◌<◌, ◌≡◌, true, List, T, length}
use Rattle.lists.specs.Lists.{count_below, at}
use Rattle.study.specs.Limits.{max_tides, max_users, max_withdrawals}
use Rattle.study.specs.declared.Dataset.{Dataset}
use Rattle.study.specs.Study.{Study}
use Rattle.validity.specs.Memory.{State, state_of, study_of, contents_of, stored}
use Rattle.validity.specs.Validity.{Long}
use Rattle.access.specs.Calls.{after}
use Rattle.access.specs.Passed.{Passed}
use Rattle.merge.specs.Merge.{Shared, shared, unshared, rest, merged, agree}
use Rattle.merge.specs.Calls.{merges_datasets}

-- two datasets, and the first m pairs of tide numbers name tides that are there
pub record Named (a b : State) (firsts seconds : List ℕ) (m : ℕ) : Type 0 where
  pub first : Passed a
  pub second : Passed b
  pub first_long : m ≤ length firsts
  pub second_long : m ≤ length seconds
  pub first_low : (q : ℕ) → q < m → 1 ≤ at firsts q
  pub first_high : (q : ℕ) → q < m → at firsts q ≤ a.dataset.n
  pub second_low : (q : ℕ) → q < m → 1 ≤ at seconds q
  pub second_high : (q : ℕ) → q < m → at seconds q ≤ b.dataset.n

-- there are pairs, and all of them do
pub record Paired (a b : State) (firsts seconds : List ℕ) : Type 0 where
  pub named : Named a b firsts seconds (length firsts)
  pub same_length : length seconds ≡ length firsts
  pub some : 0 < length firsts

-- numbers in pairs, those of the second list from 1
pub record NumberPairs (firsts seconds : List ℕ) : Type 0 where
  pub same_length : length seconds ≡ length firsts
  pub low : (q : ℕ) → q < length firsts → 1 ≤ at seconds q

-- past 1, 21, 17 and 16
pub record Agreed (a b : State) (firsts seconds : List ℕ) : Type 0 where
  pub paired : Paired a b firsts seconds
  pub agrees : agree (study_of a) (study_of b) firsts seconds ≡ true

-- the first count places of a table hold those of n tides that are in no pair, in order: tide r of them has r others before it
pub record RestIn (P : Shared) (n count : ℕ) (table : List ℕ) : Type 0 where
  pub size : length table ≡ max_tides
  pub count_is : count ≡ count_below n (unshared P)
  pub below : (r : ℕ) → r < count → at table r < n
  pub pass : (r : ℕ) → r < count → T (unshared P (at table r))
  pub rank : (r : ℕ) → r < count → count_below (at table r) (unshared P) ≡ r

-- what an accepted merge tells
pub record MergeAccepted (a b : State) (firsts seconds : List ℕ) (s : State) : Type 0 where
  pub paired : Paired a b firsts seconds
  pub long : Long s
  pub few : a.dataset.n + length (rest (study_of b) (shared firsts seconds)) ≤ max_tides
  pub counts : (i : ℕ) → i < max_users → at a.dataset.withdrawn i + at b.dataset.withdrawn i ≤ max_withdrawals
  pub leaves : stored (merged (contents_of a) (contents_of b) firsts seconds) s ≡ after s (merges_datasets a b firsts seconds)
