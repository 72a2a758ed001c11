-- Which slot can hold which tide, and what a search for a free tide leaves. Assumes nothing.
use Rattle.std.specs.Prelude.{◌≡◌, List, Bool, true, false, ◌⊎◌, ℕ, ◌+◌, ◌*◌, ◌≤◌, ◌<◌, T, length, get_or}
use Rattle.study.specs.Limits.{max_tides, table_size, max_settings}
use Rattle.promise.specs.Promise.{allows}
use Rattle.lists.specs.Lists.{at}
use Rattle.matching.specs.Matching.{Matching, Tree, Path, TidesKept}

-- a slot of block m and kind k can hold the tide t: the tide may go to the block, and the kind is 0 or the tide's setting
pub record EdgeAt (allowed settings : List ℕ) (m k t : ℕ) : Type 0 where
  pub may : T (allows allowed t m)
  pub suits : (k ≡ 0) ⊎ (at settings t ≡ k)

-- the same of the slot s, by the tables of blocks and kinds
abbrev pub Edge : (allowed settings owner kind : List ℕ) (s t : ℕ) → Type 0
Edge allowed settings owner kind s t = EdgeAt allowed settings (at owner s) (at kind s) t

-- r says whether P holds
pub record Decides (P : Type 0) (r : Bool) : Type 0 where
  pub holds : r ≡ true → P
  pub fails : r ≡ false → P → ⊥

-- what every function on a graph may assume: the tables are long enough, blocks are below max_tides, settings and kinds at most 8
pub record SizedGraph (allowed settings owner kind : List ℕ) (slots tides : ℕ) : Type 0 where
  pub few_slots : slots ≤ max_tides
  pub few_tides : tides ≤ max_tides
  pub allowed_long : table_size ≤ length allowed
  pub settings_long : tides ≤ length settings
  pub blocks : (s : ℕ) → s < slots → at owner s < max_tides
  pub kind_high : (s : ℕ) → s < slots → at kind s ≤ max_settings
  pub high : (t : ℕ) → t < tides → at settings t ≤ max_settings

-- r is true where t is not seen and s can hold it, and false only where t is seen or s cannot hold it
pub record Wanted (E : ℕ → ℕ → Type 0) (slots s t : ℕ) (from : List ℕ) (r : Bool) : Type 0 where
  pub new : r ≡ true → slots ≤ at from t
  pub edge : r ≡ true → E s t
  pub not : r ≡ false → E s t → at from t < slots

-- the slot s of a tree with start slots is scanned for the tides below upto
pub record Scanning (E : ℕ → ℕ → Type 0) (slots tides s start upto tail : ℕ) (tide slot from₀ rank₀ queue₀ from rank queue : List ℕ) : Type 0 where
  pub tree : Tree E slots tides tail tide slot from rank queue
  pub grown : start ≤ tail
  pub front : at queue 0 ≡ at queue₀ 0
  pub in_tree : at rank s < max_tides
  pub seen : (t : ℕ) → t < tides → at from₀ t < slots → at from t < slots
  pub old : (x : ℕ) → x < slots → at rank x < start → at rank₀ x ≡ at rank x
  pub done : (t : ℕ) → t < upto → t < tides → E s t → at from t < slots

-- a mark at m * 9 + k says that every tide that a slot of block m and kind k can hold is seen
pub record Marked (allowed settings : List ℕ) (slots tides : ℕ) (mark : List Bool) (from : List ℕ) : Type 0 where
  pub long : length mark ≡ 1080
  pub seen : (m k : ℕ) → m < max_tides → k ≤ max_settings → get_or mark (m * 9 + k) false ≡ true → (t : ℕ) → t < tides
      → EdgeAt allowed settings m k t → at from t < slots

-- f is a free tide that the slot s can hold
pub record Free (E : ℕ → ℕ → Type 0) (slots s f : ℕ) (slot : List ℕ) : Type 0 where
  pub edge : E s f
  pub free : slots ≤ at slot f

-- the search met the free tide f, seen from the slot s of a tree
pub record Searched (E : ℕ → ℕ → Type 0) (slots tides root s f : ℕ) (tide slot from rank : List ℕ) : Type 0 where
  pub found : Free E slots s f slot
  pub tide_below : f < tides
  pub below : s < slots
  pub in_tree : at rank s < max_tides
  pub path : Path E slots tides root (at rank s + 1) tide from rank

-- what a new pair of tables keeps of the old ones: a matching, and each slot's tide
pub record Augmented (E : ℕ → ℕ → Type 0) (slots tides root : ℕ) (tide tide' slot' : List ℕ) : Type 0 where
  pub matching : Matching E slots tides tide' slot'
  pub kept : TidesKept slots tides tide tide'
  pub here : at tide' root < tides

-- part of the way along an augmenting path: the slot s is to get the free tide t
pub record Shifting (E : ℕ → ℕ → Type 0) (slots tides root s t : ℕ) (tide₀ tide slot from rank : List ℕ) : Type 0 where
  pub below : s < slots
  pub tide_below : t < tides
  pub in_tree : at rank s < max_tides
  pub matching : Matching E slots tides tide slot
  pub free : Free E slots s t slot
  pub path : Path E slots tides root (at rank s + 1) tide from rank
  pub kept : TidesKept slots tides tide₀ tide

-- a matching in which each slot below upto has a tide
pub record Saturated (E : ℕ → ℕ → Type 0) (slots tides upto : ℕ) (tide slot : List ℕ) : Type 0 where
  pub matching : Matching E slots tides tide slot
  pub full : (s : ℕ) → s < upto → at tide s < tides
