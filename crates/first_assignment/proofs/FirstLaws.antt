-- The first assignment by the order in which each tide ranks the blocks, tide after tide: a tide gets the block of least rank that any
-- assignment gives it that agrees on the tides before, and keeps that block alone. Assumes nothing.
use Prim.Native.Nat.{ℕ, ◌+◌, ◌≤◌, ◌<◌}
use native.Mathlib.Omega.{arith}
use mathlib.Core.Path.{◌≡◌, refl, sym, ap, ◌∙◌, subst}
use mathlib.Core.Logic.{⊎_elim, ◌↔◌}
use mathlib.Core.Bool.{Bool, true, false, true≢false, false≢true}
use mathlib.Core.List.{List, ◌++◌}
use lib.Dec.{T}
use lib.ListN.{length, get_or, take, drop, length-append, length-drop, get_or-append}
use lib.Seq.{drop_at}
use Rattle.std.proofs.lemmas.List.{length-take-le, get_or-take}
use Rattle.lists.specs.Lists.{at, TailKept}
use Rattle.lists.proofs.Tests.{split}
use Rattle.lists.proofs.Tables.{tail_same, tail_trans}
use Rattle.study.specs.Limits.{max_tides}
use Rattle.study.specs.Problem.{labels}
use Rattle.promise.specs.Promise.{Test, allows, Nowhere, Assigned, Promise, Upward}
use Rattle.promise.proofs.Enough.{assigning_same}
use Rattle.first_assignment.specs.Column.{Column, Narrowed}
use Rattle.first_assignment.proofs.ColumnLaws.{column_again, column_may, column_sound, column_complete}
use Rattle.first_assignment.specs.First.{Agree, First, SearchTried, Chosen}

-- ---- a search that keeps the list on no

-- from the search on a copy, whose front is then copied back
pub tried_found : {n blocks : ℕ} {E : Test} {allowed old trial copy front : List ℕ} {r : Bool} → Upward n E → n ≤ length old → n ≤ length trial
    → Promise n blocks E allowed copy trial r → r ≡ true → front ≡ take n trial
    → SearchTried n blocks E allowed old (front ++ drop n old) true
unfolding labels
tried_found {n} {old = old} {trial = trial} {front = front} up long roomy P e q =
    let size : length front ≡ n = ap length q ∙ length-take-le n trial roomy in
    record {
      found = λ _.
          assigning_same up (labels trial) (labels (front ++ drop n old))
          (λ t l.
          let inside : t < length front = omega arith in
          sym (get_or-append front (drop n old) 0 t inside ∙ ap (λ x. get_or x t 0) q ∙ get_or-take n trial t 0 l))
          (P.found e);
      none = λ f. absurd (true≢false f);
      same = λ f. absurd (true≢false f);
      kept = record {
        same_length = simp (length-append, length-drop) (omega arith);
        rest = drop_at front (drop n old) n size;
      };
    }

pub tried_none : {n blocks : ℕ} {E : Test} {allowed trial copy : List ℕ} {r : Bool} (old : List ℕ) → Promise n blocks E allowed copy trial r
    → r ≡ false → SearchTried n blocks E allowed old old false
tried_none {n} old P e =
    record { found = λ f. absurd (false≢true f); none = λ _. P.none e; same = λ _. refl; kept = tail_same n old }

-- no search is needed where tide t may go to no block
pub tried_nowhere : {n blocks : ℕ} {E : Test} {allowed : List ℕ} {t : ℕ} (list : List ℕ) → t < n → Nowhere allowed t blocks
    → SearchTried n blocks E allowed list list false
tried_nowhere {n} {t = t} list tl nowhere =
    record {
      found = λ f. absurd (false≢true f);
      none = λ _ D A. nowhere (D t) (A.below t tl) (A.may t tl);
      same = λ _. refl;
      kept = tail_same n list;
    }

-- ---- one tide

-- list is an assignment that gives t the block v, and t has lost no block that ranks before v
pub record Choosing (rank : ℕ → ℕ) (n blocks : ℕ) (E : Test) (t v : ℕ) (old new list₀ list : List ℕ) : Type 0 where
  pub same_length : length new ≡ length old
  pub other : (x m : ℕ) → x < max_tides → (x ≡ t → blocks ≤ m) → T (allows new x m) ↔ T (allows old x m)
  pub low : (m : ℕ) → m < blocks → rank m < rank v → T (allows new t m) ↔ T (allows old t m)
  pub assigned : Assigned n blocks E old (labels list)
  pub here : labels list t ≡ v
  pub kept : TailKept n list₀ list

pub choosing_start : {rank : ℕ → ℕ} {n blocks : ℕ} {E : Test} {old list : List ℕ} (t v : ℕ) → Assigned n blocks E old (labels list)
    → v ≡ labels list t → Choosing rank n blocks E t v old old list list
choosing_start {n = n} {list = list} t v A e =
    record {
      same_length = refl;
      other = λ x m k q. (λ h. h, λ h. h);
      low = λ m k l. (λ h. h, λ h. h);
      assigned = A;
      here = sym e;
      kept = tail_same n list;
    }

module _ {rank : ℕ → ℕ} {n blocks : ℕ} {E : Test} {t v : ℕ} {old new list₀ list : List ℕ} (small : n ≤ max_tides) (tl : t < n)
    (S : Choosing rank n blocks E t v old new list₀ list) where
  pub choosing_lt : v < blocks
  choosing_lt = omega (arith, S.assigned.below t tl, S.here)

  module _ {restricted : List ℕ} (C : Narrowed blocks t (λ m. rank m < rank v) new restricted) where
    -- of the table at the start, too
    whole : Narrowed blocks t (λ m. rank m < rank v) old restricted
    whole =
        record {
          same_length = C.same_length ∙ S.same_length;
          here = λ m l.
              let p = C.here m l in
              (λ h. let q = p.0 h in ((S.low m l q.1).0 q.0, q.1), λ h. p.1 ((S.low m l h.1).1 h.0, h.1));
          other = λ x m l e. let p = C.other x m l e in let q = S.other x m l e in (λ h. q.0 (p.0 h), λ h. p.1 (q.1 h));
        }

    module _ {tried : List ℕ} {r : Bool} (A : SearchTried n blocks E restricted list tried r) where
      pub choosing_less : r ≡ true → rank (labels tried t) < rank v
      choosing_less e = (column_may small tl whole (labels tried) (A.found e)).1

      pub choosing_more : r ≡ true → (w : ℕ) → w ≡ labels tried t → Choosing rank n blocks E t w old restricted list₀ tried
      choosing_more e w q =
          record {
            same_length = whole.same_length;
            other = whole.other;
            low = λ m l k.
                let p = whole.here m l in
                let b : rank w < rank v = subst (λ z. rank z < rank v) (sym q) (choosing_less e) in
                (λ h. (p.0 h).0, λ h. p.1 (h, omega arith));
            assigned = column_sound small tl whole (λ m l h. h.0) (labels tried) (A.found e);
            here = sym q;
            kept = tail_trans S.kept A.kept;
          }

      -- none ranks before v, and t is left v alone
      pub choosing_end : {left : List ℕ} → r ≡ false → Column blocks t (λ m. m ≡ v) restricted left → Chosen rank n blocks E t old left tried
      choosing_end {left} e N =
          let p : Column blocks t (λ m. m ≡ v) old left = column_again whole N in
          let had : T (allows old t v) = subst (λ z. T (allows old t z)) S.here (S.assigned.may t tl) in
          subst (λ l. Chosen rank n blocks E t old left l) (sym (A.same e))
          (record {
            same_length = p.same_length;
            assigned = column_complete small tl p (labels list) S.assigned S.here;
            sound = column_sound small tl p (λ m l q. subst (λ z. T (allows old t z)) (sym q) had);
            fixed = λ G B. column_may small tl p G B ∙ sym S.here;
            complete = λ G B q. column_complete small tl p G B (q ∙ S.here);
            least = λ G B. subst (λ z. rank z ≤ rank (G t)) (sym S.here) (none_before G B);
          })
        where
          none_before : (G : ℕ → ℕ) → Assigned n blocks E old G → rank v ≤ rank (G t)
          none_before G B =
              ⊎_elim (λ l. absurd (A.none e G (column_complete small tl whole G B (B.may t tl, l)))) (λ l. l) (split (rank (G t)) (rank v))

      pub choosing_kept : TailKept n list₀ tried
      choosing_kept = tail_trans S.kept A.kept

-- the ranks of the blocks stand in a list
pub chosen_ranked : {rank : ℕ → ℕ} {n blocks ranked : ℕ} {E : Test} {t : ℕ} {old new list : List ℕ} (ranks : List ℕ) → t < n → ranked ≡ blocks
    → ((m : ℕ) → m < blocks → at ranks m ≡ rank m) → Chosen (at ranks) n ranked E t old new list → Chosen rank n blocks E t old new list
chosen_ranked {rank} {n} {E = E} {t = t} {old = old} {new = new} {list = list} ranks tl e here C =
    let S = subst (λ z. Chosen (at ranks) n z E t old new list) e C in
    record {
      same_length = S.same_length;
      assigned = S.assigned;
      sound = S.sound;
      fixed = S.fixed;
      complete = S.complete;
      least = λ G B. omega (arith, here (labels list t) (S.assigned.below t tl), here (G t) (B.below t tl), S.least G B);
    }

-- ---- the tides below t

-- the assignments of the table are those of the first table that agree with list below t, and none comes before
pub record Fixed (rank : ℕ → ℕ → ℕ) (n blocks : ℕ) (E : Test) (t : ℕ) (first table list : List ℕ) : Type 0 where
  pub same_length : length table ≡ length first
  pub assigned : Assigned n blocks E table (labels list)
  pub sound : (G : ℕ → ℕ) → Assigned n blocks E table G → Assigned n blocks E first G
  pub agree : (G : ℕ → ℕ) → Assigned n blocks E table G → Agree t G (labels list)
  pub complete : (G : ℕ → ℕ) → Assigned n blocks E first G → Agree t (labels list) G → Assigned n blocks E table G
  pub least : (G : ℕ → ℕ) → Assigned n blocks E first G → (x : ℕ) → x < t → Agree x (labels list) G → rank x (labels list x) ≤ rank x (G x)

pub fixed_start : {rank : ℕ → ℕ → ℕ} {n blocks : ℕ} {E : Test} {table list : List ℕ} → Assigned n blocks E table (labels list)
    → Fixed rank n blocks E 0 table table list
fixed_start A =
    record {
      same_length = refl;
      assigned = A;
      sound = λ G h. h;
      agree = λ G h x l. absurd (omega arith);
      complete = λ G h g. h;
      least = λ G h x l. absurd (omega arith);
    }

module _ {rank : ℕ → ℕ → ℕ} {n blocks : ℕ} {E : Test} {t : ℕ} {first old new list₀ list : List ℕ}
    (F : Fixed rank n blocks E t first old list₀) (S : Chosen (rank t) n blocks E t old new list) where
  -- list keeps what is fixed
  same : Agree t (labels list) (labels list₀)
  same = F.agree (labels list) (S.sound (labels list) S.assigned)

  last : (P : ℕ → Type 0) (x : ℕ) → x < t + 1 → (x < t → P x) → P t → P x
  last P x l f h = ⊎_elim f (λ k. subst P (omega arith) h) (split x t)

  -- what agrees with list below t + 1 agrees with the list before
  before : (G : ℕ → ℕ) {x : ℕ} → x ≤ t → Agree x (labels list) G → Agree x (labels list₀) G
  before G k g y q = sym (same y (omega arith)) ∙ g y q

  pub fixed_more : Fixed rank n blocks E (t + 1) first new list
  fixed_more =
      record {
        same_length = S.same_length ∙ F.same_length;
        assigned = S.assigned;
        sound = λ G h. F.sound G (S.sound G h);
        agree = λ G h x l. last (λ x. G x ≡ labels list x) x l (λ k. F.agree G (S.sound G h) x k ∙ sym (same x k)) (S.fixed G h);
        complete = λ G h g.
            S.complete G (F.complete G h (before G (omega arith) (λ x l. g x (omega arith)))) (sym (g t (omega arith)));
        least = λ G h x l.
            last (λ x. Agree x (labels list) G → rank x (labels list x) ≤ rank x (G x)) x l
            (λ k g. subst (λ z. rank x z ≤ rank x (G x)) (sym (same x k)) (F.least G h x k (before G (omega arith) g)))
            (λ g. S.least G (F.complete G h (before G (omega arith) g)));
      }

pub fixed_end : {rank : ℕ → ℕ → ℕ} {n blocks : ℕ} {E : Test} {t : ℕ} {first table list : List ℕ}
    → Fixed rank n blocks E t first table list → n ≤ t → First rank n blocks E first list
fixed_end F h = record { assigned = F.sound _ F.assigned; least = λ G B x l g. F.least G B x (omega arith) g }
