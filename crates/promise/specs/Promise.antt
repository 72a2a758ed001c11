-- What a search for an assignment may assume and what it promises, for any test of which sets of tides are sufficient: all that crates
-- above know of a search, and all that another one in its place must keep. Blocks and tides are numbered from 0 here; a set of tides is a
-- test of the tide's number, and an assignment gives each tide the number of its block. Assumes nothing.
use Rattle.std.specs.Prelude.{ℕ, ◌≤◌, ◌<◌, ◌≡◌, List, Bool, true, false, not, T, eqb, length, get_or}
use Rattle.lists.specs.Lists.{sum_below, count_below, TailKept}
use Rattle.study.specs.Limits.{max_tides, table_size, cell, max_settings}
use Rattle.study.specs.declared.Minima.{Minima}
use Rattle.study.specs.Study.{meets}
use Rattle.study.specs.Problem.{block, labels}

-- which sets of tides are sufficient for a block
abbrev pub Test : Type 0
Test = (ℕ → Bool) → Bool

-- more of the n tides never make a sufficient block insufficient
pub record Upward (n : ℕ) (E : Test) : Type 0 where
  pub more : (p q : ℕ → Bool) → ((t : ℕ) → t < n → T (p t) → T (q t)) → T (E p) → T (E q)

-- a sufficient block has at least b of the n tides
pub record AtLeast (n b : ℕ) (E : Test) : Type 0 where
  pub many : (p : ℕ → Bool) → T (E p) → b ≤ count_below n p

-- ---- the table of allowed pairs

-- tide t may go to block m, by a table in rows of max_tides: a row for each block, so that a scan of a block runs along memory
unfoldable pub allows : List ℕ → ℕ → ℕ → Bool
allows allowed t m = not (eqb (cell allowed m t) 0)

-- the tide t may go to no block below blocks
abbrev pub Nowhere : (allowed : List ℕ) (t blocks : ℕ) → Type 0
Nowhere allowed t blocks = (m : ℕ) → m < blocks → T (allows allowed t m) → ⊥

-- the tide t may go to block m
pub record MayGo (allowed : List ℕ) (blocks t m : ℕ) : Type 0 where
  pub below : m < blocks
  pub may : T (allows allowed t m)

-- ---- a search

-- D gives each of the n tides a block, by May one that it may go to, so that each block is sufficient
pub record Assigning (n blocks : ℕ) (E : Test) (May : ℕ → ℕ → Type 0) (D : ℕ → ℕ) : Type 0 where
  pub below : (t : ℕ) → t < n → D t < blocks
  pub may : (t : ℕ) → t < n → May t (D t)
  pub enough : (m : ℕ) → m < blocks → T (E (block D m))

-- document 01, a filling: so by the table
abbrev pub Assigned : (n blocks : ℕ) (E : Test) (allowed : List ℕ) (D : ℕ → ℕ) → Type 0
Assigned n blocks E allowed = Assigning n blocks E (λ t m. T (allows allowed t m))

-- what a search may assume beside what the tides bring with them (src/tides.rt): few blocks, and room for a table of allowed pairs and for
-- a list of n tides
pub record Room (n blocks : ℕ) (allowed list : List ℕ) : Type 0 where
  pub few_blocks : blocks ≤ max_tides
  pub allowed_long : table_size ≤ length allowed
  pub list_long : n ≤ length list

-- what a search promises of its answer r and of the list that it leaves, list'
pub record Promise (n blocks : ℕ) (E : Test) (allowed list list' : List ℕ) (r : Bool) : Type 0 where
  -- on yes the list is an assignment
  pub found : r ≡ true → Assigned n blocks E allowed (labels list')
  -- on no there is none
  pub none : r ≡ false → (D : ℕ → ℕ) → Assigned n blocks E allowed D → ⊥
  -- the places past the n tides stay
  pub tail : TailKept n list list'

-- ---- the minima as a test of sets of tides

-- the sets of n tides with these settings that meet the minima
unfoldable pub meeting : Minima → ℕ → List ℕ → Test
meeting M n s = meets M n (λ t. get_or s t 0)

-- what a search may assume of minima and settings
pub record Able (M : Minima) (n : ℕ) (s : List ℕ) : Type 0 where
  pub small : M.b0 ≤ max_tides
  pub fit : sum_below max_settings (λ j. get_or M.b j 0) ≤ M.b0
  pub settings_long : n ≤ length s
  pub setting_low : (t : ℕ) → t < n → 1 ≤ get_or s t 0
  pub setting_high : (t : ℕ) → t < n → get_or s t 0 ≤ max_settings
