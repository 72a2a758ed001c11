-- An assignment gives each slot a tide of its own, and a matching that does, written out as a list, is an assignment. Assumes nothing.
use mathlib.Core.Path.{◌≡◌, refl, sym, ap, ◌∙◌, subst, subst₂}
use mathlib.Core.List.{List}
use mathlib.Core.Bool.{Bool, false, cond, ◌&&◌}
use mathlib.Core.Logic.{◌⊎◌, inl, inr, ⊎_elim}
use Prim.Native.Nat.{ℕ, zero, suc, ◌+◌, ◌*◌, ◌-◌, ◌≤◌, ◌<◌}
use native.Mathlib.Omega.{arith}
use lib.Dec.{T, eqb, leb, eqb→eq, eqb_refl, nleb→lt}
use lib.ListN.{get_or}
use borrow.Author.Tests.{eq-eqb, ne_eqb, lt-leb}
use Rattle.lists.specs.Lists.{count_below, at}
use Rattle.lists.proofs.Tests.{and_T, T-left, T-right, eq→eqb}
use Rattle.lists.proofs.Counts.{sum_same, count_into}
use Rattle.study.specs.declared.Minima.{Minima}
use Rattle.study.specs.Problem.{block, labels}
use Rattle.study.specs.Minima.{Meets}
use Rattle.study.proofs.StudyLaws.{meets-T}
use Rattle.promise.specs.Promise.{allows, Assigned}
use Rattle.promise.specs.Promise.{meeting, Able}
use Rattle.lists.proofs.Counting.{sum_none, sum_one, count_before, count_apart, count_none, nth, Nth, nth_is, firsts}
use Rattle.matching.proofs.Surplus.{of_setting, surplus, own_needed, own_setting, own_in, surplus_in, surplus_not, count_own, count_surplus}
use Rattle.matching.specs.Matching.{Unsaturable}
use Rattle.matching.specs.Graph.{Edge, Saturated}
use Rattle.matching.specs.Slots.{total, block_sum, slot_test, Slots}
use Rattle.matching.specs.Steps.{ListWritten}

-- the test for block m and kind k
abbrev cls : ℕ → ℕ → ℕ → ℕ → Bool
cls m k x y = eqb x m && eqb y k

-- the test for block m
abbrev of_block : ℕ → ℕ → ℕ → Bool
of_block m x y = eqb x m

-- ---- how many slots there are of a block and of a kind

module _ (blocks b0 : ℕ) (b owner kind : List ℕ) (sl : Slots blocks b0 b owner kind) where
  -- a test that fails at every slot of another block
  one_block : (Q : ℕ → ℕ → Bool) (m : ℕ) → m < blocks → ((x y : ℕ) → (x ≡ m → ⊥) → Q x y ≡ false)
      → count_below (blocks * b0) (slot_test Q owner kind) ≡ block_sum Q b0 b m
  unfolding block_sum
  one_block Q m l out =
      sl.law Q ∙ sum_one blocks (block_sum Q b0 b) m l (λ x _ n.
      let a = sum_none 8 (λ j. cond (Q x (j + 1)) (at b j) 0) (λ j _. rw (out x (j + 1) n)) in
      let c : cond (Q x 0) (b0 - total b) 0 ≡ 0 = rw (out x 0 n) in
      omega arith)

  class_count : (m j : ℕ) → m < blocks → j < 8 → count_below (blocks * b0) (slot_test (cls m (suc j)) owner kind) ≡ at b j
  unfolding block_sum
  class_count m j ml jl =
      let o = one_block (cls m (suc j)) m ml (λ x y n. rw (ne_eqb x m n)) in
      let a =
      sum_one 8 (λ i. cond (cls m (suc j) m (i + 1)) (at b i) 0) j jl
      (λ i _ n. rw (eq-eqb m m refl, ne_eqb (i + 1) (suc j) (λ r. n (omega arith)))) in
      let e : cond (cls m (suc j) m (j + 1)) (at b j) 0 ≡ at b j = rw (eq-eqb m m refl, eq-eqb (j + 1) (suc j) (omega arith)) in
      let c : cond (cls m (suc j) m 0) (b0 - total b) 0 ≡ 0 = rw (eq-eqb m m refl, ne_eqb 0 (suc j) (λ r. omega arith)) in
      omega arith

  rest_count : (m : ℕ) → m < blocks → count_below (blocks * b0) (slot_test (cls m 0) owner kind) ≡ b0 - total b
  unfolding block_sum
  rest_count m ml =
      let o = one_block (cls m 0) m ml (λ x y n. rw (ne_eqb x m n)) in
      let a = sum_none 8 (λ i. cond (cls m 0 m (i + 1)) (at b i) 0) (λ i _. rw (eq-eqb m m refl, ne_eqb (i + 1) 0 (λ r. omega arith))) in
      let c : cond (cls m 0 m 0) (b0 - total b) 0 ≡ b0 - total b = rw (eq-eqb m m refl) in
      omega arith

  block_count : total b ≤ b0 → (m : ℕ) → m < blocks → count_below (blocks * b0) (slot_test (of_block m) owner kind) ≡ b0
  unfolding block_sum
  block_count fit m ml =
      let o = one_block (of_block m) m ml (λ x y n. rw (ne_eqb x m n)) in
      let a = sum_same 8 (λ i. cond (of_block m m (i + 1)) (at b i) 0) (λ i. at b i) (λ i _. rw (eq-eqb m m refl)) in
      let c : cond (of_block m m 0) (b0 - total b) 0 ≡ b0 - total b = rw (eq-eqb m m refl) in
      omega arith

  -- a test that fails at the slots of every block
  no_slot : (Q : ℕ → ℕ → Bool) → ((m : ℕ) → m < blocks → (k : ℕ) → k ≤ 8 → Q m k ≡ false) → count_below (blocks * b0) (slot_test Q owner kind) ≡ 0
  unfolding block_sum
  no_slot Q out =
      sl.law Q ∙ sum_none blocks (block_sum Q b0 b) (λ m ml.
      let a = sum_none 8 (λ j. cond (Q m (j + 1)) (at b j) 0) (λ j jl. rw (out m ml (j + 1) (omega arith))) in
      let c : cond (Q m 0) (b0 - total b) 0 ≡ 0 = rw (out m ml 0 (omega arith)) in
      omega arith)

  pub slot_below : (s : ℕ) → s < blocks * b0 → at owner s < blocks
  slot_below s l =
      nleb→lt blocks (at owner s)
      (count_none (slot_test (λ x y. leb blocks x) owner kind) (blocks * b0) (no_slot (λ x y. leb blocks x) (λ m ml k kl. lt-leb blocks m ml)) s l)

  pub slot_kind : (s : ℕ) → s < blocks * b0 → at kind s ≤ 8
  slot_kind s l =
      let none = no_slot (λ x y. leb 9 y) (λ m ml k kl. lt-leb 9 k (omega arith)) in
      let r = nleb→lt 9 (at kind s) (count_none (slot_test (λ x y. leb 9 y) owner kind) (blocks * b0) none s l) in
      omega arith

-- ---- from an assignment to a matching

-- the tides of a set for a slot of the kind k: the first b of that setting, or the surplus ones
fitting : (b : List ℕ) (setting : ℕ → ℕ) (p : ℕ → Bool) (k : ℕ) → ℕ → Bool
fitting b setting p zero = surplus b setting p
fitting b setting p (suc j) = firsts (at b j) (of_setting setting p j)

module _ (b : List ℕ) (setting : ℕ → ℕ) (p : ℕ → Bool) where
  fitting_in : (k t : ℕ) → T (fitting b setting p k t) → T (p t)
  unfolding fitting
  fitting_in zero t h = surplus_in b setting p t h
  fitting_in (suc j) t h = own_in b setting p j t h

  fitting_kind : (k t : ℕ) → T (fitting b setting p k t) → (k ≡ 0) ⊎ (setting t ≡ k)
  unfolding fitting
  fitting_kind zero t h = inl refl
  fitting_kind (suc j) t h = inr (own_setting b setting p j t h)

  -- a tide is for slots of one kind
  same_kind : (k i t : ℕ) → T (fitting b setting p k t) → T (fitting b setting p i t) → k ≡ i
  unfolding fitting
  same_kind zero zero t h g = refl
  same_kind zero (suc i) t h g = absurd (surplus_not b setting p t h (own_needed b setting p i t g))
  same_kind (suc k) zero t h g = absurd (surplus_not b setting p t g (own_needed b setting p k t h))
  same_kind (suc k) (suc i) t h g = sym (own_setting b setting p k t h) ∙ own_setting b setting p i t g

module _ (n blocks : ℕ) (M : Minima) (settings allowed owner kind : List ℕ) (D : ℕ → ℕ) (able : Able M n settings)
    (sl : Slots blocks M.b0 M.b owner kind) (asg : Assigned n blocks (meeting M n settings) allowed D) where
  abbrev slots : ℕ
  slots = blocks * M.b0

  abbrev setting : ℕ → ℕ
  setting t = get_or settings t 0

  meet : (m : ℕ) → m < blocks → Meets M n setting (block D m)
  unfolding meeting
  meet m l = (meets-T M n setting (block D m)).0 (asg.enough m l)

  -- no more slots than tides
  enough : (m k : ℕ) → m < blocks → k ≤ 8 → count_below slots (slot_test (cls m k) owner kind) ≤ count_below n (fitting M.b setting (block D m) k)
  unfolding fitting of_setting
  enough m zero ml kl =
      let e = meet m ml in
      omega (
        arith,
        rest_count blocks M.b0 M.b owner kind sl m ml,
        count_surplus M.b setting (block D m) n able.setting_low able.setting_high M.b0 e.whole e.each able.fit,
      )
  enough m (suc j) ml kl =
      let e = meet m ml in
      omega (
        arith,
        class_count blocks M.b0 M.b owner kind sl m j ml (omega arith),
        count_own M.b setting (block D m) n able.setting_low able.setting_high M.b0 e.whole e.each able.fit j (omega arith),
      )

  -- the test that a slot passes with its like, and its place among them
  abbrev like : ℕ → ℕ → Bool
  like s = slot_test (cls (at owner s) (at kind s)) owner kind

  abbrev idx : ℕ → ℕ
  idx s = count_below s (like s)

  abbrev fit : ℕ → ℕ → Bool
  fit s = fitting M.b setting (block D (at owner s)) (at kind s)

  -- the tide of a slot
  abbrev give : ℕ → ℕ
  give s = nth (fit s) n (idx s)

  like_self : (s : ℕ) → T (like s s)
  like_self s = and_T (eqb (at owner s) (at owner s)) (eqb (at kind s) (at kind s)) (eqb_refl (at owner s)) (eqb_refl (at kind s))

  gives : (s : ℕ) → s < slots → Nth (fit s) n (idx s) (give s)
  gives s l =
      nth_is (fit s) n (idx s)
      (omega (
        arith,
        count_before (like s) s slots (like_self s) l,
        enough (at owner s) (at kind s) (slot_below blocks M.b0 M.b owner kind sl s l) (slot_kind blocks M.b0 M.b owner kind sl s l),
      ))

  gives_block : (s : ℕ) → s < slots → D (give s) ≡ at owner s
  unfolding block
  gives_block s l = eqb→eq (D (give s)) (at owner s) (fitting_in M.b setting (block D (at owner s)) (at kind s) (give s) (gives s l).pass)

  give_edge : (s : ℕ) → s < slots → Edge allowed settings owner kind s (give s)
  give_edge s l =
      record {
        may = subst (λ m. T (allows allowed (give s) m)) (gives_block s l) (asg.may (give s) (gives s l).below);
        suits = fitting_kind M.b setting (block D (at owner s)) (at kind s) (give s) (gives s l).pass;
      }

  give_apart : (s u : ℕ) → s < slots → u < slots → give s ≡ give u → s ≡ u
  give_apart s u l k e =
      let m : at owner s ≡ at owner u = sym (gives_block s l) ∙ ap D e ∙ gives_block u k in
      let p : T (fitting M.b setting (block D (at owner s)) (at kind u) (give s))
      = subst₂ (λ (x y : ℕ). T (fitting M.b setting (block D x) (at kind u) y)) (sym m) (sym e) (gives u k).pass in
      let q : at kind s ≡ at kind u = same_kind M.b setting (block D (at owner s)) (at kind s) (at kind u) (give s) (gives s l).pass p in
      let r : idx s ≡ idx u = sym (gives s l).rank ∙ (λ i. count_below (e i) (fitting M.b setting (block D (m i)) (q i))) ∙ (gives u k).rank in
      let a : count_below s (like s) ≡ count_below u (like s) = r ∙ (λ i. count_below u (slot_test (cls (sym m i) (sym q i)) owner kind)) in
      count_apart (like s) s u (like_self s)
      (and_T (eqb (at owner u) (at owner s)) (eqb (at kind u) (at kind s))
      (eq→eqb (at owner u) (at owner s) (sym m)) (eq→eqb (at kind u) (at kind s) (sym q))) a

  -- where no matching gives every slot a tide, there is no assignment
  pub no_assignment : Unsaturable (Edge allowed settings owner kind) slots n → ⊥
  no_assignment un = un give (record { below = λ s l. (gives s l).below; edge = give_edge; apart = give_apart })

-- ---- from a matching that gives every slot a tide, written out, to an assignment

module _ (n blocks : ℕ) (M : Minima) (settings allowed owner kind tide slot list : List ℕ) (fit : total M.b ≤ M.b0)
    (sl : Slots blocks M.b0 M.b owner kind)
    (sat : Saturated (Edge allowed settings owner kind) (blocks * M.b0) n (blocks * M.b0) tide slot)
    (wr : ListWritten n blocks (blocks * M.b0) allowed owner slot list) where
  held_block : (s : ℕ) → s < blocks * M.b0 → labels list (at tide s) ≡ at owner s
  unfolding labels
  held_block s l =
      let h = sat.full s l in
      let e = sat.matching.there s l h in
      wr.own (at tide s) h (rw e l) ∙ ap (at owner) e

  held_apart : (s u : ℕ) → s < blocks * M.b0 → u < blocks * M.b0 → at tide s ≡ at tide u → s ≡ u
  held_apart s u l k e = sym (sat.matching.there s l (sat.full s l)) ∙ ap (at slot) e ∙ sat.matching.there u k (sat.full u k)

  held_setting : (s j : ℕ) → s < blocks * M.b0 → at kind s ≡ suc j → at settings (at tide s) ≡ suc j
  held_setting s j l e = ⊎_elim (λ z. absurd (omega arith)) (λ x. x ∙ e) (sat.matching.edge s l (sat.full s l)).suits

  in_block : (m s : ℕ) → s < blocks * M.b0 → T (eqb (at owner s) m) → T (block (labels list) m (at tide s))
  unfolding block
  in_block m s l p = eq→eqb (labels list (at tide s)) m (held_block s l ∙ eqb→eq (at owner s) m p)

  written_meets : (m : ℕ) → m < blocks → Meets M n (λ t. get_or settings t 0) (block (labels list) m)
  written_meets m ml =
      record {
        whole = omega (
          arith,
          block_count blocks M.b0 M.b owner kind sl fit m ml,
          count_into (blocks * M.b0) n (slot_test (of_block m) owner kind) (block (labels list) m) (at tide) (λ s l p. sat.full s l) (in_block m)
              (λ s u l k p q. held_apart s u l k),
        );
        each = λ j jl. omega (
          arith,
          class_count blocks M.b0 M.b owner kind sl m j ml jl,
          count_into (blocks * M.b0) n (slot_test (cls m (suc j)) owner kind) (λ t. block (labels list) m t && eqb (get_or settings t 0) (suc j))
              (at tide) (λ s l p. sat.full s l)
              (λ s l p.
              let own = T-left (eqb (at owner s) m) (eqb (at kind s) (suc j)) p in
              let k = eqb→eq (at kind s) (suc j) (T-right (eqb (at owner s) m) (eqb (at kind s) (suc j)) p) in
              and_T (block (labels list) m (at tide s)) (eqb (at settings (at tide s)) (suc j)) (in_block m s l own)
              (eq→eqb (at settings (at tide s)) (suc j) (held_setting s j l k)))
              (λ s u l k p q. held_apart s u l k),
        );
      }

  pub written_assigned : Assigned n blocks (meeting M n settings) allowed (labels list)
  unfolding labels meeting
  written_assigned =
      record {
        below = wr.below;
        may = wr.may;
        enough = λ m ml. (meets-T M n (λ t. get_or settings t 0) (block (labels list) m)).1 (written_meets m ml);
      }
