-- One step along an augmenting path: the slot s gets the free tide t, and its old tide goes free. Assumes nothing.
use mathlib.Core.Path.{◌≡◌, sym, ap, ◌∙◌}
use mathlib.Core.List.{List}
use mathlib.Core.Bool.{cond}
use Prim.Native.Nat.{ℕ, ◌+◌, ◌≤◌, ◌<◌}
use native.Mathlib.Decide.{ℕ_discrete, dec_lt}
use native.Mathlib.Omega.{arith}
use borrow.Author.Tests.{lt-ltb, le-ltb}
use lib.ListN.{length, set, length-set}
use lib.Seq.{get_or-set_same, get_or-set_other}
use Rattle.lists.specs.Lists.{at}
use Rattle.matching.specs.Matching.{Matching, Tree, Path, TidesKept, freed}

pub freed_yes : (slot : List ℕ) (s t o tides : ℕ) → o < tides → freed slot s t o tides ≡ set (set slot t s) o 120
unfolding freed
freed_yes slot s t o tides h = ap (λ b. cond b (set (set slot t s) o 120) (set slot t s)) (lt-ltb o tides h)

pub freed_no : (slot : List ℕ) (s t o tides : ℕ) → tides ≤ o → freed slot s t o tides ≡ set slot t s
unfolding freed
freed_no slot s t o tides h = ap (λ b. cond b (set (set slot t s) o 120) (set slot t s)) (le-ltb o tides h)

pub freed_length : (slot : List ℕ) (s t o tides : ℕ) → length (freed slot s t o tides) ≡ length slot
freed_length slot s t o tides = go (dec_lt o tides)
  where
    go : Dec (o < tides) → length (freed slot s t o tides) ≡ length slot
    go (yes h) = rw (freed_yes slot s t o tides h) (simp length-set)
    go (no h) = rw (freed_no slot s t o tides (omega arith)) (simp length-set)

module _ (slot : List ℕ) (s t tides : ℕ) (len : length slot ≡ 120) (tl : t < tides) (few : tides ≤ 120) where
  freed_t : (o : ℕ) → (t ≡ o → ⊥) → at (freed slot s t o tides) t ≡ s
  freed_t o ne = go (dec_lt o tides)
    where
      here : at (set slot t s) t ≡ s
      here = get_or-set_same slot t s 0 (omega arith)

      go : Dec (o < tides) → at (freed slot s t o tides) t ≡ s
      go (yes h) = rw (freed_yes slot s t o tides h) (get_or-set_other (set slot t s) o t 120 0 ne ∙ here)
      go (no h) = rw (freed_no slot s t o tides (omega arith)) here

  freed_o : (o : ℕ) → o < tides → at (freed slot s t o tides) o ≡ 120
  freed_o o h = rw (freed_yes slot s t o tides h) (get_or-set_same (set slot t s) o 120 0 (simp length-set (omega arith)))

  freed_other : (o y : ℕ) → (y ≡ t → ⊥) → (y ≡ o → ⊥) → at (freed slot s t o tides) y ≡ at slot y
  freed_other o y nt n-o = go (dec_lt o tides)
    where
      there : at (set slot t s) y ≡ at slot y
      there = get_or-set_other slot t y s 0 nt

      go : Dec (o < tides) → at (freed slot s t o tides) y ≡ at slot y
      go (yes h) = rw (freed_yes slot s t o tides h) (get_or-set_other (set slot t s) o y 120 0 n-o ∙ there)
      go (no h) = rw (freed_no slot s t o tides (omega arith)) there

module _ {E : ℕ → ℕ → Type 0} {slots tides : ℕ} {tide slot : List ℕ} (small : slots ≤ 120) (few : tides ≤ 120)
    (v : Matching E slots tides tide slot)
    {s t : ℕ} (sl : s < slots) (tl : t < tides) (free : slots ≤ at slot t) (e : E s t) where
  -- the old tide
  abbrev o : ℕ
  o = at tide s

  abbrev tide' : List ℕ
  tide' = set tide s t

  abbrev slot' : List ℕ
  slot' = freed slot s t o tides

  t_not_o : t ≡ o → ⊥
  t_not_o q =
      let a : o < tides = rw (← q) tl in
      let b : at slot t ≡ s = ap (at slot) q ∙ v.there s sl a in
      omega arith

  tide_s : at tide' s ≡ t
  tide_s = get_or-set_same tide s t 0 (omega (arith, v.tide_long))

  tide_other : (x : ℕ) → (x ≡ s → ⊥) → at tide' x ≡ at tide x
  tide_other x n = get_or-set_other tide s x t 0 n

  slot_t : at slot' t ≡ s
  slot_t = freed_t slot s t tides v.slot_long tl few o t_not_o

  slot_o : o < tides → at slot' o ≡ 120
  slot_o h = freed_o slot s t tides v.slot_long tl few o h

  -- the tide of another slot stays with it
  slot_kept : (x : ℕ) → x < slots → (x ≡ s → ⊥) → at tide x < tides → at slot' (at tide x) ≡ x
  slot_kept x xl n h =
      freed_other
      slot
      s
      t
      tides
      v.slot_long
      tl
      few
      o
      (at tide x)
      (λ q. let b : at slot t ≡ x = ap (at slot) (sym q) ∙ v.there x xl h in omega arith)
      (λ q. n (sym (v.there x xl h) ∙ ap (at slot) q ∙ v.there s sl (rw (← q) h)))
      ∙ v.there x xl h

  edge' : (x : ℕ) → x < slots → at tide' x < tides → E x (at tide' x)
  edge' x xl h = go (ℕ_discrete x s)
    where
      go : Dec (x ≡ s) → E x (at tide' x)
      go (yes q) = rw (q, tide_s) e
      go (no n) = let b = tide_other x n in rw b (v.edge x xl (omega arith))

  there' : (x : ℕ) → x < slots → at tide' x < tides → at slot' (at tide' x) ≡ x
  there' x xl h = go (ℕ_discrete x s)
    where
      go : Dec (x ≡ s) → at slot' (at tide' x) ≡ x
      go (yes q) = rw (q, tide_s) slot_t
      go (no n) = let b = tide_other x n in rw b (slot_kept x xl n (omega arith))

  back' : (y : ℕ) → y < tides → at slot' y < slots → at tide' (at slot' y) ≡ y
  back' y yl h = go (ℕ_discrete y t) (ℕ_discrete y o)
    where
      go : Dec (y ≡ t) → Dec (y ≡ o) → at tide' (at slot' y) ≡ y
      go (yes q) d = rw (q, slot_t) tide_s
      go (no n) (yes q) =
          let a : o < tides = rw (← q) yl in
          let b : at slot' y ≡ 120 = ap (at slot') q ∙ slot_o a in
          absurd (omega arith)
      go (no n) (no m) =
          let b = freed_other slot s t tides v.slot_long tl few o y n m in
          let k : at slot y < slots = omega arith in
          let r = v.back y yl k in
          rw b (tide_other (at slot y) (λ q. m (sym r ∙ ap (at tide) q)) ∙ r)

  pub swapped : Matching E slots tides tide' slot'
  swapped =
      record {
        tide_long = length-set tide s t ∙ v.tide_long;
        slot_long = freed_length slot s t o tides ∙ v.slot_long;
        edge = edge';
        there = there';
        back = back';
      }

  pub swap_free : o < tides → slots ≤ at slot' o
  swap_free h = let b = slot_o h in omega arith

  pub swap_kept : TidesKept slots tides tide tide'
  swap_kept x xl h = go (ℕ_discrete x s)
    where
      go : Dec (x ≡ s) → at tide' x < tides
      go (yes q) = rw (q, tide_s) tl
      go (no n) = let b = tide_other x n in omega arith

  pub swap_here : at tide' s < tides
  swap_here = rw tide_s tl

  module _ {root : ℕ} {from rank : List ℕ} (w : Path E slots tides root (at rank s + 1) tide from rank) (sr : at rank s < 120) where
    rank_pos : o < tides → 0 < at rank s
    rank_pos h = go (dec_lt 0 (at rank s))
      where
        go : Dec (0 < at rank s) → 0 < at rank s
        go (yes p) = p
        go (no p) =
            let z : s ≡ root = w.ends s sl sr (omega arith) in
            let f = w.free in
            let b : o ≡ at tide root = ap (at tide) z in
            absurd (omega arith)

    -- where s had no tide, s is the root
    pub swap_root : tides ≤ o → s ≡ root
    swap_root h = go (dec_lt 0 (at rank s))
      where
        go : Dec (0 < at rank s) → s ≡ root
        go (yes p) = let b = w.held s sl (omega arith) p in absurd (omega arith)
        go (no p) = w.ends s sl sr (omega arith)

    pub swap_falls : o < tides → at rank (at from o) < at rank s
    swap_falls h = w.falls s sl (omega arith) (rank_pos h)

    pub swap_next : o < tides → at from o < slots
    swap_next h = w.through s sl (omega arith) (rank_pos h)

    pub swap_edge : o < tides → E (at from o) o
    swap_edge h = w.edge s sl (omega arith) (rank_pos h)

    low_other : (x : ℕ) → at rank x < at rank s → at tide' x ≡ at tide x
    low_other x l = tide_other x (λ q. let b : at rank x ≡ at rank s = ap (at rank) q in omega arith)

    pub swap_path : o < tides → Path E slots tides root (at rank (at from o) + 1) tide' from rank
    swap_path h =
        let f = swap_falls h in
        record {
          free = rw (tide_other root (λ q. let b : o ≡ at tide root = ap (at tide) (sym q) in let f = w.free in omega arith)) w.free;
          ends = w.ends;
          held = λ x xl l p. let a = low_other x (omega arith) in let b = w.held x xl (omega arith) p in omega arith;
          through = λ x xl l p. rw (low_other x (omega arith)) (w.through x xl (omega arith) p);
          edge = λ x xl l p. rw (low_other x (omega arith)) (w.edge x xl (omega arith) p);
          falls = λ x xl l p. rw (low_other x (omega arith)) (w.falls x xl (omega arith) p);
        }

-- a tree gives the path back from each of its slots
pub tree_path : {E : ℕ → ℕ → Type 0} {slots tides tail d : ℕ} {tide slot from rank queue : List ℕ} → Matching E slots tides tide slot
    → Tree E slots tides tail tide slot from rank queue → d ≤ 120 → Path E slots tides (at queue 0) d tide from rank
tree_path {tide = tide} {queue = queue} v tr h =
    record {
      free = tr.root;
      ends = λ x xl l z. sym (tr.home x xl l) ∙ ap (at queue) z;
      held = λ x xl l p. tr.held x xl (omega arith) p;
      through = λ x xl l p. tr.through x xl (omega arith) p;
      edge = λ x xl l p. tr.seen (at tide x) (tr.held x xl (omega arith) p) (tr.through x xl (omega arith) p);
      falls =
          λ x xl l p.
          let hx = tr.held x xl (omega arith) p in
          let r = tr.rises (at tide x) hx (tr.through x xl (omega arith) p) in
          rw (v.there x xl hx) at r;
    }
