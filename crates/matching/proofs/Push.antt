-- One more slot in a tree: the holder h of a tide t that was not seen, seen from the slot s of the tree. Assumes nothing.
use mathlib.Core.Path.{◌≡◌, refl, sym, ap, ◌∙◌}
use mathlib.Core.List.{List}
use Prim.Native.Nat.{ℕ, zero, suc, ◌+◌, ◌≤◌, ◌<◌}
use native.Mathlib.Decide.{ℕ_discrete, dec_lt}
use native.Mathlib.Omega.{arith}
use lib.ListN.{set, length-set}
use lib.Seq.{get_or-set_same, get_or-set_other}
use Rattle.lists.proofs.Counts.{pigeonhole}
use Rattle.lists.specs.Lists.{at}
use Rattle.matching.specs.Matching.{Matching, Tree}

-- h first, and then f
front : ℕ → (ℕ → ℕ) → ℕ → ℕ
front h f zero = h
front h f (suc i) = f i

module _ {E : ℕ → ℕ → Type 0} {slots tides tail : ℕ} {tide slot from rank queue : List ℕ} (small : slots ≤ 120)
    (few_tides : tides ≤ 120)
    (v : Matching E slots tides tide slot) (tr : Tree E slots tides tail tide slot from rank queue)
    {s t : ℕ} (sl : s < slots) (sr : at rank s < 120) (tl : t < tides) (new : slots ≤ at from t) (e : E s t) (hl : at slot t < slots) where
  -- the holder
  abbrev h : ℕ
  h = at slot t

  -- the holder's tide is t
  h_tide : at tide h ≡ t
  h_tide = v.back t tl hl

  -- the holder is not in the tree
  h_new : 120 ≤ at rank h
  h_new = go (dec_lt (at rank h) 120) (dec_lt 0 (at rank h))
    where
      go : Dec (at rank h < 120) → Dec (0 < at rank h) → 120 ≤ at rank h
      go (no n) d = omega arith
      go (yes r) (yes p) =
          let a : at from t < slots = rw h_tide at (tr.through h hl r p) in
          absurd (omega arith)
      go (yes r) (no p) =
          let z : at rank h ≡ 0 = omega arith in
          let q : at queue 0 ≡ h = ap (at queue) (sym z) ∙ tr.home h hl r in
          let f : at tide (at queue 0) ≡ t = ap (at tide) q ∙ h_tide in
          let a = tr.root in
          absurd (omega arith)

  entry_low : (i : ℕ) → i < tail → at rank (at queue i) < 120
  entry_low i l = let p = tr.place i l in let f = tr.few in omega arith

  entry_other : (i : ℕ) → i < tail → at queue i ≡ h → ⊥
  entry_other i l q = let a = entry_low i l in let b : at rank (at queue i) ≡ at rank h = ap (at rank) q in let n = h_new in omega arith

  -- there is room
  pub room : tail < slots
  unfolding front
  room = pigeonhole (suc tail) slots (front h (at queue)) into inj
    where
      into : (i : ℕ) → i < suc tail → front h (at queue) i < slots
      into zero l = hl
      into (suc i) l = tr.entry i (omega arith)

      inj : (i j : ℕ) → i < suc tail → j < suc tail → front h (at queue) i ≡ front h (at queue) j → i ≡ j
      inj zero zero hi hj q = refl
      inj zero (suc j) hi hj q = absurd (entry_other j (omega arith) (sym q))
      inj (suc i) zero hi hj q = absurd (entry_other i (omega arith) q)
      inj (suc i) (suc j) hi hj q =
          let a = tr.place i (omega arith) in
          let b = tr.place j (omega arith) in
          let c : at rank (at queue i) ≡ at rank (at queue j) = ap (at rank) q in
          omega arith

  abbrev from' : List ℕ
  from' = set from t s

  abbrev rank' : List ℕ
  rank' = set rank h tail

  abbrev queue' : List ℕ
  queue' = set queue tail h

  from_t : at from' t ≡ s
  from_t = get_or-set_same from t s 0 (omega (arith, tr.from_long))

  rank_h : at rank' h ≡ tail
  rank_h = get_or-set_same rank h tail 0 (omega (arith, tr.rank_long))

  queue_tail : at queue' tail ≡ h
  queue_tail = let r = room in get_or-set_same queue tail h 0 (omega (arith, tr.queue_long))

  -- what was in the tree stays as it was
  pub rank_old : (x : ℕ) → at rank x < 120 → at rank' x ≡ at rank x
  rank_old x l = get_or-set_other rank h x tail 0 (λ q. let b : at rank x ≡ at rank h = ap (at rank) q in let n = h_new in omega arith)

  rank_other : (x : ℕ) → (x ≡ h → ⊥) → at rank' x ≡ at rank x
  rank_other x n = get_or-set_other rank h x tail 0 n

  pub queue_old : (i : ℕ) → i < tail → at queue' i ≡ at queue i
  queue_old i l = get_or-set_other queue tail i h 0 (λ q. omega arith)

  from_old : (x : ℕ) → at from x < slots → at from' x ≡ at from x
  from_old x l = get_or-set_other from t x s 0 (λ q. let b : at from x ≡ at from t = ap (at from) q in omega arith)

  from_other : (x : ℕ) → (x ≡ t → ⊥) → at from' x ≡ at from x
  from_other x n = get_or-set_other from t x s 0 n

  -- a slot of the new tree is h, or was in the tree
  slot_case : {A : Type 0} (x : ℕ) → at rank' x < 120 → (x ≡ h → A) → (at rank x < 120 → at rank' x ≡ at rank x → A) → A
  slot_case {A = A} x l new old = go (ℕ_discrete x h)
    where
      go : Dec (x ≡ h) → A
      go (yes q) = new q
      go (no n) = let b = rank_other x n in old (omega arith) b

  -- a tide that is seen is t, or was seen
  tide_case : {A : Type 0} (x : ℕ) → at from' x < slots → (x ≡ t → A) → (at from x < slots → at from' x ≡ at from x → A) → A
  tide_case {A = A} x l new old = go (ℕ_discrete x t)
    where
      go : Dec (x ≡ t) → A
      go (yes q) = new q
      go (no n) = let b = from_other x n in old (omega arith) b

  index_case : {A : Type 0} (i : ℕ) → i < tail + 1 → (i ≡ tail → A) → (i < tail → A) → A
  index_case {A = A} i l new old = go (dec_lt i tail)
    where
      go : Dec (i < tail) → A
      go (yes q) = old q
      go (no n) = new (omega arith)

  pub pushed : Tree E slots tides (tail + 1) tide slot from' rank' queue'
  pushed =
      record {
        from_long = length-set from t s ∙ tr.from_long;
        rank_long = length-set rank h tail ∙ tr.rank_long;
        queue_long = length-set queue tail h ∙ tr.queue_long;
        some = omega arith;
        few = let r = room in omega arith;
        root = let a = tr.root in rw (queue_old 0 tr.some) a;
        entry = λ i l. index_case i l (λ q. rw (q, queue_tail) hl) (λ k. rw (queue_old i k) (tr.entry i k));
        place = λ i l. index_case i l (λ q. rw (q, queue_tail) rank_h) (λ k. rw (queue_old i k) (rank_old _ (entry_low i k) ∙ tr.place i k));
        ranked = λ x xl l. slot_case x l (λ q. rw (q, rank_h) (omega arith)) (λ k b. let r = tr.ranked x xl k in omega arith);
        home =
            λ x xl l.
            slot_case x l (λ q. rw (q, rank_h) queue_tail) (λ k b. rw b (queue_old _ (tr.ranked x xl k) ∙ tr.home x xl k));
        seen = λ x xl l. tide_case x l (λ q. rw (q, from_t) e) (λ k b. rw b (tr.seen x xl k));
        holder = λ x xl l. tide_case x l (λ q. rw q hl) (λ k b. tr.holder x xl k);
        rises = λ x xl l. tide_case x l (λ q. rw (q, from_t, rank_old s sr, rank_h) (tr.ranked s sl sr))
            (λ k b.
            let r = tr.rises x xl k in
            let j = tr.joined x xl k in
            let a = rank_old (at from x) (omega arith) in
            let c = rank_old (at slot x) j in
            rw b (omega arith));
        joined = λ x xl l. tide_case x l (λ q. let r = room in rw (q, rank_h) (omega arith))
            (λ k b.
            let j = tr.joined x xl k in
            let c = rank_old (at slot x) j in
            omega arith);
        held = λ x xl l p. slot_case x l (λ q. rw (q, h_tide) tl) (λ k b. tr.held x xl k (omega arith));
        through = λ x xl l p. slot_case x l (λ q. rw (q, h_tide, from_t) sl)
            (λ k b.
            let f = tr.through x xl k (omega arith) in
            let g = from_old (at tide x) f in
            omega arith);
      }

  -- what was seen stays seen
  pub push_seen : (x : ℕ) → at from x < slots → at from' x < slots
  push_seen x l = let b = from_old x l in omega arith

  -- t is seen
  pub push_here : at from' t < slots
  push_here = rw from_t sl

  -- a slot of low rank has the rank that it had
  pub push_rank : (x : ℕ) → at rank' x < tail → at rank x ≡ at rank' x
  push_rank x l =
      let r = room in
      slot_case x (omega arith) (λ q. let z : at rank' x ≡ tail = rw q rank_h in absurd (omega arith)) (λ k b. sym b)
