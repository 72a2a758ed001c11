-- The turns of the loops that build a matching, on plain lists: `scan`, `shift`, `visit`, `start`, `grow`, `augment`,
-- `saturate`. Assumes nothing.
use mathlib.Core.Path.{◌≡◌, refl, sym, ap, ◌∙◌, subst, subst₂}
use mathlib.Core.Logic.{◌⊎◌, inl, ⊎_elim}
use mathlib.Core.List.{List}
use mathlib.Core.Bool.{Bool, true, false, false≢true}
use Prim.Native.Nat.{ℕ, ◌+◌, ◌*◌, ◌≤◌, ◌<◌}
use native.Mathlib.Decide.{ℕ_discrete, dec_lt}
use native.Mathlib.Omega.{arith}
use lib.ListN.{get_or, length, set, replicate, length-set, length-replicate, get_or-replicate}
use lib.Seq.{get_or-set_same, get_or-set_other}
use Rattle.lists.specs.Lists.{at}
use Rattle.matching.specs.Matching.{Matching, Tree, TidesKept, Closed, Unsaturable, freed}
use Rattle.matching.specs.Graph.{EdgeAt, Edge, SizedGraph, Scanning, Marked, Free, Searched, Augmented, Shifting, Saturated}
use Rattle.matching.proofs.Push.{pushed, push_seen, push_here, push_rank, room, queue_old, rank_old}
use Rattle.matching.proofs.Shift.{swapped, swap_free, swap_kept, swap_here, swap_root, swap_falls, swap_next, swap_edge, swap_path, tree_path}
use Rattle.matching.proofs.Hall.{hall}

-- what holds of each index below i, and of i, holds of each below i + 1
upto_case : {A : Type 0} (i k : ℕ) → k < i + 1 → (k ≡ i → A) → (k < i → A) → A
upto_case {A = A} i k l here before = go (dec_lt k i)
  where
    go : Dec (k < i) → A
    go (yes h) = before h
    go (no h) = here (omega arith)

module _ {E : ℕ → ℕ → Type 0} {slots tides : ℕ} {tide slot : List ℕ} (small : slots ≤ 120) (few : tides ≤ 120)
    (v : Matching E slots tides tide slot) {s start : ℕ} (sl : s < slots) {from₀ rank₀ queue₀ : List ℕ} where
  pub scan_start : Tree E slots tides start tide slot from₀ rank₀ queue₀ → at rank₀ s < 120
      → Scanning E slots tides s start 0 start tide slot from₀ rank₀ queue₀ from₀ rank₀ queue₀
  scan_start tr sr =
      record {
        tree = tr;
        grown = omega arith;
        front = refl;
        in_tree = sr;
        seen = λ t tl h. h;
        old = λ x xl h. refl;
        done = λ t l _ _. absurd (omega arith);
      }

  module _ {t tail : ℕ} {from rank queue : List ℕ} (sc : Scanning E slots tides s start t tail tide slot from₀ rank₀ queue₀ from rank queue) where
    -- all tides are passed
    pub scan_end : {k : ℕ} → tides ≤ t → Scanning E slots tides s start k tail tide slot from₀ rank₀ queue₀ from rank queue
    scan_end h =
        record {
          tree = sc.tree;
          grown = sc.grown;
          front = sc.front;
          in_tree = sc.in_tree;
          seen = sc.seen;
          old = sc.old;
          done = λ x l xl e. sc.done x (omega arith) xl e;
        }

    -- t is passed over
    pub scan_skip : {tail' : ℕ} {from' rank' queue' : List ℕ} → (E s t → at from t < slots) → from' ≡ from → rank' ≡ rank → queue' ≡ queue → tail' ≡ tail
        → Scanning E slots tides s start (t + 1) tail' tide slot from₀ rank₀ queue₀ from' rank' queue'
    scan_skip not e₁ e₂ e₃ e₄ =
        rw (e₁, e₂, e₃, e₄) (record {
          tree = sc.tree;
          grown = sc.grown;
          front = sc.front;
          in_tree = sc.in_tree;
          seen = sc.seen;
          old = sc.old;
          done = λ x l xl e. upto_case t x l (λ q. rw q (not (rw q at e))) (λ k. sc.done x k xl e);
        })

    module _ (tl : t < tides) (new : slots ≤ at from t) (e : E s t) (hl : at slot t < slots) where
      pub scan_room : tail < slots
      scan_room = room small few v sc.tree sl sc.in_tree tl new e hl

      -- the holder of t joins
      pub scan_push : {tail' : ℕ} {from' rank' queue' : List ℕ} → from' ≡ set from t s → rank' ≡ set rank (at slot t) tail
          → queue' ≡ set queue tail (at slot t) → tail' ≡ tail + 1
          → Scanning E slots tides s start (t + 1) tail' tide slot from₀ rank₀ queue₀ from' rank' queue'
      scan_push e₁ e₂ e₃ e₄ = rw (e₁, e₂, e₃, e₄) made
        where
          seen_kept : (x : ℕ) → at from x < slots → at (set from t s) x < slots
          seen_kept = push_seen small few v sc.tree sl sc.in_tree tl new e hl

          rank_kept : (x : ℕ) → at (set rank (at slot t) tail) x < tail → at rank x ≡ at (set rank (at slot t) tail) x
          rank_kept = push_rank small few v sc.tree sl sc.in_tree tl new e hl

          made : Scanning E slots tides s start (t + 1) (tail + 1) tide slot from₀ rank₀ queue₀
              (set from t s) (set rank (at slot t) tail) (set queue tail (at slot t))
          made =
              record {
                tree = pushed small few v sc.tree sl sc.in_tree tl new e hl;
                grown = let g = sc.grown in omega arith;
                front = queue_old small few v sc.tree sl sc.in_tree tl new e hl 0 sc.tree.some ∙ sc.front;
                in_tree =
                    let i = sc.in_tree in
                    let k = rank_old small few v sc.tree sl i tl new e hl s i in
                    omega arith;
                seen = λ x xl h. seen_kept x (sc.seen x xl h);
                old = λ x xl h. let g = sc.grown in let k = rank_kept x (omega arith) in sc.old x xl (omega arith) ∙ k;
                done =
                    λ x l xl p.
                    upto_case
                    t
                    x
                    l
                    (λ q. rw q (push_here small few v sc.tree sl sc.in_tree tl new e hl))
                    (λ k. seen_kept x (sc.done x k xl p));
              }

-- ---- along an augmenting path
module _ {E : ℕ → ℕ → Type 0} {slots tides root s t : ℕ} {tide₀ tide slot from rank : List ℕ} (small : slots ≤ 120) (few : tides ≤ 120)
    (sh : Shifting E slots tides root s t tide₀ tide slot from rank) where
  module _ {o : ℕ} {tide' slot' : List ℕ} (eo : o ≡ at tide s) (et : tide' ≡ set tide s t) (es : slot' ≡ freed slot s t (at tide s) tides) where
    matching' : Matching E slots tides tide' slot'
    matching' = rw (et, es) (swapped small few sh.matching sh.below sh.tide_below sh.free.free sh.free.edge)

    kept' : TidesKept slots tides tide₀ tide'
    kept' x xl h =
        rw et (swap_kept small few sh.matching sh.below sh.tide_below sh.free.free sh.free.edge x xl (sh.kept x xl h))

    pub shift_falls : o < tides → at rank (at from o) < at rank s
    shift_falls h =
        rw eo (swap_falls small few sh.matching sh.below sh.tide_below sh.free.free sh.free.edge sh.path sh.in_tree (rw eo at h))

    pub shift_again : o < tides → Shifting E slots tides root (at from o) o tide₀ tide' slot' from rank
    shift_again h =
        let k : at tide s < tides = rw eo at h in
        let f = shift_falls h in
        let i = sh.in_tree in
        record {
          below = rw eo (swap_next small few sh.matching sh.below sh.tide_below sh.free.free sh.free.edge sh.path sh.in_tree k);
          tide_below = h;
          in_tree = omega arith;
          matching = matching';
          free = record {
            edge = rw eo (swap_edge small few sh.matching sh.below sh.tide_below sh.free.free sh.free.edge sh.path sh.in_tree k);
            free = rw (es, eo) (swap_free small few sh.matching sh.below sh.tide_below sh.free.free sh.free.edge k);
          };
          path = rw (et, eo) (swap_path small few sh.matching sh.below sh.tide_below sh.free.free sh.free.edge sh.path sh.in_tree k);
          kept = kept';
        }

    pub shift_end : tides ≤ o → Augmented E slots tides root tide₀ tide' slot'
    shift_end h =
        let k : tides ≤ at tide s = rw eo at h in
        let q : s ≡ root = swap_root small few sh.matching sh.below sh.tide_below sh.free.free sh.free.edge sh.path sh.in_tree k in
        record {
          matching = matching';
          kept = kept';
          here =
              rw (et, ← q) (swap_here small few sh.matching sh.below sh.tide_below sh.free.free sh.free.edge);
        }

-- ---- a slot of a block and kind that may be marked

module _ {allowed settings owner kind : List ℕ} {slots tides : ℕ} (z : SizedGraph allowed settings owner kind slots tides) {s : ℕ} (sl : s < slots)
    {mark : List Bool} {from : List ℕ} (mk : Marked allowed settings slots tides mark from) where
  abbrev E : ℕ → ℕ → Type 0
  E = Edge allowed settings owner kind

  -- every tide that the slot can hold is seen, from a slot of the kind k
  pub visit_known : {k i start : ℕ} {tide slot rank queue : List ℕ} → Tree E slots tides start tide slot from rank queue → at rank s < 120
      → (k ≡ 0) ⊎ (k ≡ at kind s) → i ≡ at owner s * 9 + k → get_or mark i false ≡ true
      → Scanning E slots tides s start 120 start tide slot from rank queue from rank queue
  visit_known {k} tr sr w ei h =
      record {
        tree = tr;
        grown = omega arith;
        front = refl;
        in_tree = sr;
        seen = λ t tl k. k;
        old = λ x xl k. refl;
        done = λ t l tl e.
            let low : k ≤ 8 = ⊎_elim (λ q. omega arith) (λ q. omega (arith, z.kind_high s sl)) w in
            mk.seen (at owner s) k (z.blocks s sl) low (rw (← ei) h) t tl
            (record { may = e.may; suits = ⊎_elim (λ q. inl q) (λ q. subst (λ (i : ℕ). (i ≡ 0) ⊎ (at settings t ≡ i)) (sym q) e.suits) w });
      }

  -- the slot is scanned, and its block and kind marked
  pub visit_marked : {start f tail : ℕ} {tide slot rank queue from' rank' queue' : List ℕ}
      → Scanning E slots tides s start f tail tide slot from rank queue from' rank' queue' → tides ≤ f
      → Marked allowed settings slots tides (set mark (at owner s * 9 + at kind s) true) from'
  visit_marked {from' = from'} sc h =
      record {
        long = length-set mark (at owner s * 9 + at kind s) true ∙ mk.long;
        seen = λ m k ml kl g t tl e. go m k ml kl g t tl e (ℕ_discrete (m * 9 + k) (at owner s * 9 + at kind s));
      }
    where
      go : (m k : ℕ) → m < 120 → k ≤ 8 → get_or (set mark (at owner s * 9 + at kind s) true) (m * 9 + k) false ≡ true
          → (t : ℕ) → t < tides → EdgeAt allowed settings m k t → Dec (m * 9 + k ≡ at owner s * 9 + at kind s) → at from' t < slots
      go m k ml kl g t tl e (yes q) =
          let b = z.kind_high s sl in
          let x : m ≡ at owner s = omega arith in
          let y : k ≡ at kind s = omega arith in
          sc.done t (omega arith) tl (subst₂ (λ (i j : ℕ). EdgeAt allowed settings i j t) x y e)
      go m k ml kl g t tl e (no q) =
          sc.seen t tl (mk.seen m k ml kl (sym (get_or-set_other mark (at owner s * 9 + at kind s) (m * 9 + k) true false q) ∙ g) t tl e)

pub blank_marked : {allowed settings from : List ℕ} {slots tides : ℕ} → Marked allowed settings slots tides (replicate 1080 false) from
blank_marked =
    record {
      long = length-replicate {A = Bool} 1080 false;
      seen = λ m k ml kl g. absurd (false≢true (sym (get_or-replicate 1080 (m * 9 + k) false false (omega arith)) ∙ g));
    }

-- ---- a first matching

-- the matching that gives no slot a tide
pub blank_matching : {E : ℕ → ℕ → Type 0} {slots tides : ℕ} → slots ≤ 120 → tides ≤ 120 → Matching E slots tides (replicate 120 120) (replicate 120 120)
blank_matching small few =
    record {
      tide_long = length-replicate {A = ℕ} 120 120;
      slot_long = length-replicate {A = ℕ} 120 120;
      edge = λ s sl h. let a = blank s (omega arith) in absurd (omega arith);
      there = λ s sl h. let a = blank s (omega arith) in absurd (omega arith);
      back = λ t tl h. let a = blank t (omega arith) in absurd (omega arith);
    }
  where
    blank : (i : ℕ) → i < 120 → at (replicate 120 120) i ≡ 120
    blank i l = get_or-replicate 120 i 120 0 l

-- the slot s gets the free tide t
pub given : {E : ℕ → ℕ → Type 0} {slots tides s t : ℕ} {tide slot tide' slot' : List ℕ} → slots ≤ 120 → tides ≤ 120 → Matching E slots tides tide slot
    → s < slots → t < tides → slots ≤ at slot t → E s t → tide' ≡ set tide s t → slot' ≡ freed slot s t (at tide s) tides → Matching E slots tides tide' slot'
given small few v sl tl free e e₁ e₂ = rw (e₁, e₂) (swapped small few v sl tl free e)

-- ---- the search

-- the slots of rank below head are scanned, and no free tide was met
pub record Growing (E : ℕ → ℕ → Type 0) (slots tides root head tail : ℕ) (tide slot from rank queue : List ℕ) : Type 0 where
  pub tree : Tree E slots tides tail tide slot from rank queue
  pub front : at queue 0 ≡ root
  pub closed : Closed E slots tides head from rank
  pub within : head ≤ tail

module _ {E : ℕ → ℕ → Type 0} {slots tides root : ℕ} {tide slot : List ℕ} (small : slots ≤ 120) (few : tides ≤ 120)
    (v : Matching E slots tides tide slot) where
  pub grow_start : {tail : ℕ} {from rank queue : List ℕ} → Tree E slots tides tail tide slot from rank queue → root ≡ at queue 0
      → Growing E slots tides root 0 tail tide slot from rank queue
  grow_start tr e =
      record { tree = tr; front = sym e; closed = λ s sl h. absurd (omega arith); within = omega arith }

  module _ {head tail : ℕ} {from rank queue : List ℕ} (gr : Growing E slots tides root head tail tide slot from rank queue) where
    pub grow_in_tree : head < tail → at rank (at queue head) < 120
    grow_in_tree h = let p = gr.tree.place head h in let f = gr.tree.few in omega arith

    pub grow_none : tail ≤ head → Unsaturable E slots tides
    grow_none h =
        let q : head ≡ tail = let w = gr.within in omega arith in
        hall small v gr.tree (rw q at gr.closed)

    module _ (h : head < tail) {f tail' : ℕ} {from' rank' queue' : List ℕ}
        (sc : Scanning E slots tides (at queue head) tail f tail' tide slot from rank queue from' rank' queue') where
      pub grow_found : {t : ℕ} → t < tides → Free E slots (at queue head) t slot
          → Searched E slots tides (at queue' 0) (at queue head) t tide slot from' rank'
      grow_found l fr =
          let i = sc.in_tree in
          record { found = fr; tide_below = l; below = gr.tree.entry head h; in_tree = i; path = tree_path v sc.tree (omega arith) }

      pub grow_again : f ≡ 120 → Growing E slots tides root (head + 1) tail' tide slot from' rank' queue'
      grow_again e =
          record {
            tree = sc.tree;
            front = sc.front ∙ gr.front;
            closed =
                λ s sl l t tl p.
                upto_case
                head
                (at rank' s)
                l
                (λ q. sc.done t (omega arith) tl (rw (← (here s sl q)) p))
                (λ k. let o = sc.old s sl (omega arith) in sc.seen t tl (gr.closed s sl (omega arith) t tl p));
            within = let g = sc.grown in omega arith;
          }
        where
          -- the slot of rank head is the one scanned
          here : (s : ℕ) → s < slots → at rank' s ≡ head → s ≡ at queue head
          here s sl q =
              let o = sc.old s sl (omega arith) in
              let w = gr.tree.few in
              let hm = gr.tree.home s sl (omega arith) in
              sym hm ∙ ap (at queue) (o ∙ q)

-- ---- the tree of the root alone
module _ (E : ℕ → ℕ → Type 0) (slots tides root : ℕ) (tide slot queue : List ℕ) (long : length queue ≡ 120) (small : slots ≤ 120)
    (few : tides ≤ 120) (rl : root < slots) (free : tides ≤ at tide root) where
  abbrev blank : List ℕ
  blank = replicate 120 120

  blank_len : length blank ≡ 120
  blank_len = length-replicate {A = ℕ} 120 120

  blank_at : (i : ℕ) → i < 120 → at blank i ≡ 120
  blank_at i l = get_or-replicate 120 i 120 0 l

  abbrev rank₁ : List ℕ
  rank₁ = set blank root 0

  abbrev queue₁ : List ℕ
  queue₁ = set queue 0 root

  rank_root : at rank₁ root ≡ 0
  rank_root = get_or-set_same blank root 0 0 (rw blank_len (omega arith))

  queue_root : at queue₁ 0 ≡ root
  queue_root = get_or-set_same queue 0 root 0 (omega arith)

  only : (x : ℕ) → x < slots → at rank₁ x < 120 → x ≡ root
  only x xl h = go (ℕ_discrete x root)
    where
      go : Dec (x ≡ root) → x ≡ root
      go (yes q) = q
      go (no n) =
          let a = get_or-set_other blank root x 0 0 n in
          let b = blank_at x (omega arith) in
          absurd (omega arith)

  one_slot : Tree E slots tides 1 tide slot blank rank₁ queue₁
  one_slot =
      record {
        from_long = blank_len;
        rank_long = length-set blank root 0 ∙ blank_len;
        queue_long = length-set queue 0 root ∙ long;
        some = omega arith;
        few = omega arith;
        root = rw queue_root free;
        entry = λ i l. let z : i ≡ 0 = omega arith in rw (z, queue_root) rl;
        place = λ i l. let z : i ≡ 0 = omega arith in rw (z, queue_root) rank_root;
        ranked = λ s sl h. let q = only s sl h in rw (q, rank_root) (omega arith);
        home = λ s sl h. let q = only s sl h in rw (q, rank_root) queue_root;
        seen = λ t tl h. let b = blank_at t (omega arith) in absurd (omega arith);
        holder = λ t tl h. let b = blank_at t (omega arith) in absurd (omega arith);
        rises = λ t tl h. let b = blank_at t (omega arith) in absurd (omega arith);
        joined = λ t tl h. let b = blank_at t (omega arith) in absurd (omega arith);
        held = λ s sl h p. let q = only s sl h in let z : at rank₁ s ≡ 0 = rw q rank_root in absurd (omega arith);
        through = λ s sl h p. let q = only s sl h in let z : at rank₁ s ≡ 0 = rw q rank_root in absurd (omega arith);
      }

pub alone : {E : ℕ → ℕ → Type 0} {slots tides root : ℕ} {tide slot : List ℕ} (queue : List ℕ) → length queue ≡ 120 → slots ≤ 120 → tides ≤ 120
    → root < slots → tides ≤ at tide root → Tree E slots tides 1 tide slot (replicate 120 120) (set (replicate 120 120) root 0) (set queue 0 root)
alone {E} {slots} {tides} {root} {tide} {slot} queue long small few rl free = one_slot E slots tides root tide slot queue long small few rl free

-- ---- the slots in turn

module _ {E : ℕ → ℕ → Type 0} {slots tides : ℕ} {tide slot : List ℕ} where
  pub saturated_start : Matching E slots tides tide slot → {i : ℕ} → i ≤ 0 → Saturated E slots tides i tide slot
  saturated_start v {i} h = record { matching = v; full = λ x l. absurd (omega arith) }

  module _ {s : ℕ} (sat : Saturated E slots tides s tide slot) where
    pub saturated_end : slots ≤ s → Saturated E slots tides slots tide slot
    saturated_end h = record { matching = sat.matching; full = λ x l. sat.full x (omega arith) }

    module _ {i : ℕ} (step : i ≤ s + 1) {tide₁ slot₁ tide' slot' : List ℕ} (e₁ : tide' ≡ tide₁) (e₂ : slot' ≡ slot₁) where
      -- the slot s has a tide
      pub saturated_skip : at tide s < tides → tide₁ ≡ tide → slot₁ ≡ slot → Saturated E slots tides i tide' slot'
      saturated_skip h q₁ q₂ =
          rw (e₁, e₂, q₁, q₂) (record { matching = sat.matching; full = λ x l. upto_case s x (omega arith) (λ q. rw q h) (λ k. sat.full x k) })

      -- the slot s gets one
      pub saturated_more : s < slots → Augmented E slots tides s tide tide₁ slot₁ → Saturated E slots tides i tide' slot'
      saturated_more sl be =
          rw (e₁, e₂) (record {
            matching = be.matching;
            full = λ x l. upto_case s x (omega arith) (λ q. rw q be.here) (λ k. be.kept x (omega arith) (sat.full x k));
          })
