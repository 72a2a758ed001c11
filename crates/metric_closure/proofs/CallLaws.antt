-- The call, way out by way out, and what an accepted table is. Assumes nothing.
use Prim.Native.Nat.{ℕ, ◌+◌, ◌*◌, ◌/◌, ◌%◌, ◌≤◌, ◌<◌}
use native.Mathlib.Omega.{arith}
use mathlib.Core.Path.{◌≡◌, sym, ap, ◌∙◌}
use mathlib.Core.Bool.{Bool, true, false}
use mathlib.Core.List.{List, ◌++◌}
use lib.Dec.{leb, leb→le}
use lib.ListN.{length, take, get_or, length-take, get_or-append}
use lib.Seq.{get_or-take}
use borrow.Author.Tests.{le-leb, lt-leb}
use Rattle.std.specs.Bool.{MatchBool}
use Rattle.std.specs.List.{AllWithin, HoldsAt}
use Rattle.lists.specs.Lists.{every}
use Rattle.lists.proofs.Tests.{T_true, true-T, every_at, every_of, every_same}
use Rattle.lists.proofs.Scans.{every_fails}
use Rattle.lists.proofs.Tables.{length_overwrite}
use Rattle.study.specs.Refusals.{Numbered, number, accepted, refused, value, refusal, first_of}
use Rattle.metric_closure.specs.Closure.{closure, nearer_pairs, lowered_pairs}
use Rattle.metric_closure.specs.Call.{entry, in_range, symmetric_table, close_reasons, close_verdict, closed_table, close_answer, close_leaves}
use Rattle.metric_closure.specs.Tables.{Fits, InRange}
use Rattle.metric_closure.proofs.ClosureLaws.{nearer_same}
use Rattle.metric_closure.proofs.TableLaws.{row_ends, rows_at}

-- ---- what the closure leaves

module _ (n : ℕ) (l : List ℕ) (F : Fits n l) where
  abbrev least : ℕ → ℕ
  least p = closure n (entry n l) (p / n) (p % n)

  pub closed_long : length (closed_table n l) ≡ length l
  unfolding closed_table
  closed_long = length_overwrite least l (n * n) F.fits

  pub closed_at : (i j : ℕ) → i < n → j < n → entry n (closed_table n l) i j ≡ closure n (entry n l) i j
  unfolding closed_table
  closed_at = rows_at n l (closure n (entry n l))

  pub closed_fits : {new : List ℕ} → new ≡ closed_table n l → Fits n new
  closed_fits e = record { few = F.few; fits = rw (e, closed_long) F.fits }

  -- ---- counted against a copy of what was sent

  module _ {front : List ℕ} {m : ℕ} (rest : List ℕ) (copied : front ≡ take m l) (all : m ≡ n * n) where
    front_long : length front ≡ n * n
    front_long = ap length copied ∙ simp length-take (omega (arith, F.fits))

    copied_at : (i j : ℕ) → i < n → j < n → entry n (front ++ rest) i j ≡ entry n l i j
    copied_at i j a b =
        let inside : i * n + j < n * n = omega (arith, row_ends n i a) in
        get_or-append front rest 0 (i * n + j) (omega (arith, front_long)) ∙ ap (λ z. get_or z (i * n + j) 0) copied
        ∙ get_or-take m l (i * n + j) 0 (omega arith)

    pub counted : {new : List ℕ} {r : ℕ} → new ≡ closed_table n l → r ≡ nearer_pairs n (entry n new) (entry n (front ++ rest))
        → r ≡ lowered_pairs n (entry n l)
    unfolding lowered_pairs
    counted {new} e q =
        q ∙ ap (λ (x : List ℕ). nearer_pairs n (entry n x) (entry n (front ++ rest))) e
        ∙ nearer_same n (entry n (closed_table n l)) (entry n (front ++ rest)) (closure n (entry n l)) (entry n l) closed_at copied_at

-- ---- the tests

-- numbers that are all at most b, or one that is above it
pub all_at_most : (l : List ℕ) (b : ℕ) (r : Bool)
    → MatchBool r (AllWithin (λ x. x ≤ b) l 0 (length l)) ((k : ℕ) × (k < length l) × HoldsAt (λ x. b < x) l k)
    → r ≡ every (length l) (λ p. leb (get_or l p 0) b)
all_at_most l b true all =
    sym (T_true (every (length l) (λ p. leb (get_or l p 0) b))
    (every_of (length l) (λ p. leb (get_or l p 0) b) (λ k h. true-T (leb (get_or l k 0) b) (le-leb (get_or l k 0) b (all k 0 (omega arith) h)))))
all_at_most l b false one =
    sym (every_fails (λ p. leb (get_or l p 0) b) (length l) one.0 one.1 (lt-leb (get_or l one.0 0) b (one.2 0)))

pub near_of : (m : ℕ) (l : List ℕ) → in_range m l ≡ true → InRange m l
unfolding in_range
near_of m l e =
    record { near = λ p h. leb→le _ _ (every_at m (λ p. leb (get_or l p 0) 1048575) (true-T _ e) p h) }

-- the numbers of a table alone, and those of memory that has it in front
pub in_range_front : (m : ℕ) (l : List ℕ) {k : ℕ} → k ≡ m → m ≤ length l → in_range (length (take k l)) (take k l) ≡ in_range m l
unfolding in_range
in_range_front m l {k} e fits =
    ap (λ n. every n (λ p. leb (get_or (take k l) p 0) 1048575)) long
    ∙ every_same m (λ p. leb (get_or (take k l) p 0) 1048575) (λ p. leb (get_or l p 0) 1048575)
    (λ p h. ap (λ z. leb z 1048575) (get_or-take k l p 0 (omega arith)))
  where
    long : length (take k l) ≡ m
    long = simp length-take (omega arith)

-- ---- the ways out

module _ (n : ℕ) (l : List ℕ) where
  pub refused_10 : 120 < n → refused (number 10) ≡ close_verdict n l
  unfolding close_verdict close_reasons first_of
  refused_10 h = rw (lt-leb n 120 h)

  module _ (few : n ≤ 120) where
    pub refused_1 : length l < n * n → refused (number 1) ≡ close_verdict n l
    unfolding close_verdict close_reasons first_of
    refused_1 h = rw (le-leb n 120 few, lt-leb (n * n) (length l) h)

    module _ (fits : n * n ≤ length l) where
      pub refused_6 : in_range (n * n) l ≡ false → refused (number 6) ≡ close_verdict n l
      unfolding close_verdict close_reasons first_of
      refused_6 c = rw (le-leb n 120 few, le-leb (n * n) (length l) fits, c)

      module _ (near : in_range (n * n) l ≡ true) where
        pub refused_13 : symmetric_table n l ≡ false → refused (number 13) ≡ close_verdict n l
        unfolding close_verdict close_reasons first_of
        refused_13 d = rw (le-leb n 120 few, le-leb (n * n) (length l) fits, near, d)

        pub accepts : symmetric_table n l ≡ true → close_verdict n l ≡ accepted
        unfolding close_verdict close_reasons first_of
        accepts d = rw (le-leb n 120 few, le-leb (n * n) (length l) fits, near, d)

  -- the answer and the table afterwards
  pub refused_so : {r : Numbered} → refused r ≡ close_verdict n l → (refusal r ≡ close_answer n l) × (l ≡ close_leaves n l)
  unfolding close_answer close_leaves
  refused_so v = (rw (sym v), rw (sym v))

  pub closed_so : {r : ℕ} {new : List ℕ} → accepted ≡ close_verdict n l → r ≡ lowered_pairs n (entry n l) → new ≡ closed_table n l
      → (value r ≡ close_answer n l) × (new ≡ close_leaves n l)
  unfolding close_answer close_leaves
  closed_so v q e = (rw (sym v, q), rw (sym v, e))
