-- The first assignment by the order in which each tide ranks the blocks, tide after tide: a tide gets the block of least rank that any
-- assignment gives it that agrees on the tides before, and keeps that block alone. Assumes nothing.
use Rattle.std.specs.Prelude.{ℕ, ◌+◌, ◌*◌, ◌≤◌, ◌<◌, ◌≡◌, Bool, true, false, List, length}
use Rattle.lists.specs.Lists.{at, TailKept}
use Rattle.study.specs.Limits.{max_tides, cell}
use Rattle.study.specs.Problem.{labels}
use Rattle.promise.specs.Promise.{Test, Assigned}

-- D and G agree on the tides below t
abbrev pub Agree : ℕ → (ℕ → ℕ) → (ℕ → ℕ) → Type 0
Agree t D G = (x : ℕ) → x < t → D x ≡ G x

-- what tide t ranks the blocks by, the one of least rank first: how far their centres are, equally far ones by number (document 02, 2.6)
unfoldable pub rank : (d cs : List ℕ) → ℕ → ℕ → ℕ
rank d cs t m = cell d (at cs m) t * max_tides + m

-- list is an assignment, and the first tide where another one differs ranks its block in list no higher
pub record First (rank : ℕ → ℕ → ℕ) (n blocks : ℕ) (E : Test) (allowed list : List ℕ) : Type 0 where
  pub assigned : Assigned n blocks E allowed (labels list)
  pub least : (G : ℕ → ℕ) → Assigned n blocks E allowed G → (t : ℕ) → t < n → Agree t (labels list) G
      → rank t (labels list t) ≤ rank t (G t)

-- the answer of a search that writes to list only on yes
pub record SearchTried (n blocks : ℕ) (E : Test) (allowed old new : List ℕ) (r : Bool) : Type 0 where
  pub found : r ≡ true → Assigned n blocks E allowed (labels new)
  pub none : r ≡ false → (D : ℕ → ℕ) → Assigned n blocks E allowed D → ⊥
  pub same : r ≡ false → new ≡ old
  pub kept : TailKept n old new

-- the assignments of the new table are those of the old one that give t what list gives it; no block that any of them gives it ranks before
pub record Chosen (rank : ℕ → ℕ) (n blocks : ℕ) (E : Test) (t : ℕ) (old new list : List ℕ) : Type 0 where
  pub same_length : length new ≡ length old
  pub assigned : Assigned n blocks E new (labels list)
  pub sound : (G : ℕ → ℕ) → Assigned n blocks E new G → Assigned n blocks E old G
  pub fixed : (G : ℕ → ℕ) → Assigned n blocks E new G → G t ≡ labels list t
  pub complete : (G : ℕ → ℕ) → Assigned n blocks E old G → G t ≡ labels list t → Assigned n blocks E new G
  pub least : (G : ℕ → ℕ) → Assigned n blocks E old G → rank (labels list t) ≤ rank (G t)
