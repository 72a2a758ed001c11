-- A table of allowed pairs in which one tide's column is rewritten. Assumes nothing.
use Rattle.std.specs.Prelude.{ℕ, ◌≤◌, ◌<◌, ◌≡◌, ◌↔◌, List, T, length}
use Rattle.lists.specs.Lists.{at}
use Rattle.study.specs.Limits.{max_tides}
use Rattle.promise.specs.Promise.{allows}

-- of the blocks below i, tide t may now go to those of which May holds; everything else stays
pub record Column (i t : ℕ) (May : ℕ → Type 0) (old new : List ℕ) : Type 0 where
  pub same_length : length new ≡ length old
  pub here : (m : ℕ) → m < i → T (allows new t m) ↔ May m
  pub other : (x m : ℕ) → x < max_tides → (x ≡ t → i ≤ m) → T (allows new x m) ↔ T (allows old x m)

-- of the blocks below i that it might go to, tide t has kept those of which Keep holds
abbrev pub Narrowed : ℕ → ℕ → (ℕ → Type 0) → List ℕ → List ℕ → Type 0
Narrowed i t Keep old = Column i t (λ m. T (allows old t m) × Keep m) old

-- tide t has kept those of its blocks that rank before v, by a list of ranks
abbrev pub Restricted : (ranks : List ℕ) (blocks t v : ℕ) (old new : List ℕ) → Type 0
Restricted ranks blocks t v = Narrowed blocks t (λ m. at ranks m < at ranks v)
