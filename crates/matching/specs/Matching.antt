-- Matchings of slots with tides. E s t says that the slot s can hold the tide t. Assumes nothing.
use Rattle.std.specs.Prelude.{◌≡◌, List, ℕ, ◌≤◌, ◌<◌, length, set, ltb, cond}
use Rattle.lists.specs.Lists.{at}
use Rattle.study.specs.Limits.{max_tides}

-- every slot below slots has a tide below tides of its own
pub record Saturating (E : ℕ → ℕ → Type 0) (slots tides : ℕ) (g : ℕ → ℕ) : Type 0 where
  pub below : (s : ℕ) → s < slots → g s < tides
  pub edge : (s : ℕ) → s < slots → E s (g s)
  pub apart : (s s' : ℕ) → s < slots → s' < slots → g s ≡ g s' → s ≡ s'

-- no matching gives every slot a tide
abbrev pub Unsaturable : (E : ℕ → ℕ → Type 0) (slots tides : ℕ) → Type 0
Unsaturable E slots tides = (g : ℕ → ℕ) → Saturating E slots tides g → ⊥

-- tide has the tide of each slot and slot the slot of each tide: a number past the end where there is none
pub record Matching (E : ℕ → ℕ → Type 0) (slots tides : ℕ) (tide slot : List ℕ) : Type 0 where
  pub tide_long : length tide ≡ max_tides
  pub slot_long : length slot ≡ max_tides
  pub edge : (s : ℕ) → s < slots → at tide s < tides → E s (at tide s)
  pub there : (s : ℕ) → s < slots → at tide s < tides → at slot (at tide s) ≡ s
  pub back : (t : ℕ) → t < tides → at slot t < slots → at tide (at slot t) ≡ t

-- a tree of alternating paths from the free slot at the front of queue: from has the slot that a tide
-- was seen from, and rank the place of a slot in queue, max_tides where it is not in the tree
pub record Tree (E : ℕ → ℕ → Type 0) (slots tides tail : ℕ) (tide slot from rank queue : List ℕ) : Type 0 where
  pub from_long : length from ≡ max_tides
  pub rank_long : length rank ≡ max_tides
  pub queue_long : length queue ≡ max_tides
  pub some : 0 < tail
  pub few : tail ≤ slots
  pub root : tides ≤ at tide (at queue 0)
  pub entry : (i : ℕ) → i < tail → at queue i < slots
  pub place : (i : ℕ) → i < tail → at rank (at queue i) ≡ i
  pub ranked : (s : ℕ) → s < slots → at rank s < max_tides → at rank s < tail
  pub home : (s : ℕ) → s < slots → at rank s < max_tides → at queue (at rank s) ≡ s
  pub seen : (t : ℕ) → t < tides → at from t < slots → E (at from t) t
  pub holder : (t : ℕ) → t < tides → at from t < slots → at slot t < slots
  pub rises : (t : ℕ) → t < tides → at from t < slots → at rank (at from t) < at rank (at slot t)
  pub joined : (t : ℕ) → t < tides → at from t < slots → at rank (at slot t) < max_tides
  pub held : (s : ℕ) → s < slots → at rank s < max_tides → 0 < at rank s → at tide s < tides
  pub through : (s : ℕ) → s < slots → at rank s < max_tides → 0 < at rank s → at from (at tide s) < slots

-- every tide that a slot of rank below head can hold is seen
abbrev pub Closed : (E : ℕ → ℕ → Type 0) (slots tides head : ℕ) (from rank : List ℕ) → Type 0
Closed E slots tides head from rank = (s : ℕ) → s < slots → at rank s < head → (t : ℕ) → t < tides → E s t → at from t < slots

-- the path back to the free slot root from each slot of rank below d: from the slot's tide to the slot that
-- the tide was seen from, of lower rank
pub record Path (E : ℕ → ℕ → Type 0) (slots tides root d : ℕ) (tide from rank : List ℕ) : Type 0 where
  pub free : tides ≤ at tide root
  pub ends : (x : ℕ) → x < slots → at rank x < max_tides → at rank x ≡ 0 → x ≡ root
  pub held : (x : ℕ) → x < slots → at rank x < d → 0 < at rank x → at tide x < tides
  pub through : (x : ℕ) → x < slots → at rank x < d → 0 < at rank x → at from (at tide x) < slots
  pub edge : (x : ℕ) → x < slots → at rank x < d → 0 < at rank x → E (at from (at tide x)) (at tide x)
  pub falls : (x : ℕ) → x < slots → at rank x < d → 0 < at rank x → at rank (at from (at tide x)) < at rank x

-- slots that have a tide keep one
abbrev pub TidesKept : (slots tides : ℕ) (tide tide' : List ℕ) → Type 0
TidesKept slots tides tide tide' = (x : ℕ) → x < slots → at tide x < tides → at tide' x < tides

-- slot after the slot s gets the tide t and the tide o, if it is one, goes free
unfoldable pub freed : (slot : List ℕ) (s t o tides : ℕ) → List ℕ
freed slot s t o tides = cond (ltb o tides) (set (set slot t s) o max_tides) (set slot t s)
