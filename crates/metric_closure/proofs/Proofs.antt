-- The statements of Theorems.antt: `for_table` and `for_call`. Assumes nothing.
use Prim.Native.Nat.{ℕ, ◌*◌, ◌/◌, ◌%◌, ◌≤◌, ◌<◌}
use native.Mathlib.Omega.{arith}
use mathlib.Core.Path.{◌≡◌, refl, sym, ap, ◌∙◌, subst}
use mathlib.Core.Logic.{◌⊎◌, inl, inr, ⊎_elim}
use mathlib.Core.Bool.{Bool, true}
use mathlib.Core.List.{List}
use lib.Dec.{T, leb, eqb, leb→le, le→leb, eqb→eq}
use lib.ListN.{length, drop, get_or}
use Rattle.lists.specs.Lists.{every}
use Rattle.lists.proofs.Tests.{and_T, T-left, T-right, T_true, not_not, split, every_at, every_of, eq→eqb}
use Rattle.lists.proofs.Tables.{overwrite_same, drop_overwrite}
use Rattle.study.specs.Refusals.{Numbered, Verdict, accepted, refused, settled, value, refusal, replied, IsFirst}
use Rattle.study.proofs.CallLaws.{none_holds}
use Rattle.study.proofs.ReasonLaws.{is_first, only_first}
use Rattle.metric_closure.specs.Closure.{closure, lowered_pairs}
use Rattle.metric_closure.specs.Call.{entry, in_range, symmetric_row, symmetric_table, close_reasons, close_verdict, closed_table, close_answer, close_leaves}
use Rattle.metric_closure.specs.Theorems.{Dissimilarity, TriangleInequality, ForTable, EveryTable, Closable, EveryCall}
use Rattle.metric_closure.specs.Tables.{Fits}
use Rattle.metric_closure.proofs.ClosureLaws.{table_laws, dissimilarity_same, triangle_same}
use Rattle.metric_closure.proofs.TableLaws.{in_row, entry_near, places_near}
use Rattle.metric_closure.proofs.CallLaws.{closed_long, closed_at, near_of, accepts}

pub for_table : EveryTable
for_table = table_laws

-- ---- what the tests say

module _ (n : ℕ) (l : List ℕ) where
  abbrev same? : ℕ → ℕ → Bool
  same? i j = eqb (entry n l i j) (entry n l j i)

  dissimilarity_of : T (symmetric_table n l) → Dissimilarity n (entry n l)
  unfolding symmetric_table symmetric_row
  dissimilarity_of t =
      record {
        both_ways = λ i j a b.
            ⊎_elim (λ h. sym (earlier j i h b)) (λ h. ⊎_elim (λ k. earlier i j k a) (λ k. one i j (omega arith)) (split j i)) (split i j);
        itself = λ i a. eqb→eq (entry n l i i) 0 (T-right (every i (same? i)) (eqb (entry n l i i) 0) (every_at n (symmetric_row n l) t i a));
      }
    where
      one : (i j : ℕ) → i ≡ j → entry n l i j ≡ entry n l j i
      one i j e = subst (λ z. entry n l i z ≡ entry n l z i) e refl

      earlier : (i j : ℕ) → j < i → i < n → entry n l i j ≡ entry n l j i
      earlier i j h a =
          let row = T-left (every i (same? i)) (eqb (entry n l i i) 0) (every_at n (symmetric_row n l) t i a) in
          eqb→eq (entry n l i j) (entry n l j i) (every_at i (same? i) row j h)

  of_dissimilarity : Dissimilarity n (entry n l) → T (symmetric_table n l)
  unfolding symmetric_table symmetric_row
  of_dissimilarity S =
      every_of n (symmetric_row n l) (λ i a.
      and_T (every i (same? i)) (eqb (entry n l i i) 0)
      (every_of i (same? i) (λ j b. eq→eqb (entry n l i j) (entry n l j i) (S.both_ways i j a (omega arith))))
      (eq→eqb (entry n l i i) 0 (S.itself i a)))

  of_near : ((i j : ℕ) → i < n → j < n → entry n l i j ≤ 1048575) → in_range (n * n) l ≡ true
  unfolding in_range
  of_near h =
      T_true (every (n * n) (λ p. leb (get_or l p 0) 1048575))
      (every_of (n * n) (λ p. leb (get_or l p 0) 1048575) (λ p k. le→leb (get_or l p 0) 1048575 ((places_near n l h).near p k)))

  closable_of : close_verdict n l ≡ accepted → Closable n l
  unfolding close_verdict close_reasons
  closable_of v =
      let h = none_holds (close_reasons n l) v in
      let near = T_true (in_range (n * n) l) (not_not (in_range (n * n) l) h.1.1.0) in
      record {
        few = leb→le n 120 (not_not (leb n 120) h.0);
        fits = leb→le (n * n) (length l) (not_not (leb (n * n) (length l)) h.1.0);
        near = entry_near (near_of (n * n) l near);
        symmetric = dissimilarity_of (not_not (symmetric_table n l) h.1.1.1.0);
      }

  of_closable : Closable n l → close_verdict n l ≡ accepted
  of_closable M = accepts n l M.few M.fits (of_near M.near) (T_true (symmetric_table n l) (of_dissimilarity M.symmetric))

-- ---- what an accepted call leaves

module _ (n : ℕ) (l : List ℕ) (M : Closable n l) where
  verdict : close_verdict n l ≡ accepted
  verdict = of_closable n l M

  pub leaves_closed : close_leaves n l ≡ closed_table n l
  unfolding close_leaves
  leaves_closed = rw verdict

  answers : close_answer n l ≡ value (lowered_pairs n (entry n l))
  unfolding close_answer
  answers = rw verdict

  fit : Fits n l
  fit = record { few = M.few; fits = M.fits }

  table : ForTable n (entry n l)
  table = for_table n (entry n l) M.symmetric

  abbrev left : List ℕ
  left = close_leaves n l

  left_at : (i j : ℕ) → i < n → j < n → entry n left i j ≡ closure n (entry n l) i j
  left_at i j a b = ap (λ (x : List ℕ). entry n x i j) leaves_closed ∙ closed_at n l fit i j a b

  left_long : length left ≡ length l
  left_long = ap length leaves_closed ∙ closed_long n l fit

  left_past : drop (n * n) left ≡ drop (n * n) l
  unfolding closed_table
  left_past = ap (drop (n * n)) leaves_closed ∙ drop_overwrite (λ p. closure n (entry n l) (p / n) (p % n)) l (n * n)

  left_same : TriangleInequality n (entry n l) → left ≡ l
  unfolding closed_table
  left_same R =
      leaves_closed ∙ overwrite_same (λ p. closure n (entry n l) (p / n) (p % n)) l (n * n) 0 M.fits (λ p h.
      let P = in_row n n p h in
      table.own R (p / n) (p % n) P.row P.column ∙ ap (λ (z : ℕ). get_or l z 0) P.place)

  left_obeys : TriangleInequality n (entry n left)
  left_obeys = triangle_same n (entry n left) (closure n (entry n l)) left_at table.obeys

  left_closable : Closable n left
  left_closable =
      record {
        few = M.few;
        fits = omega (arith, M.fits, left_long);
        near = λ i j a b. omega (arith, left_at i j a b, table.lower.below i j a b, M.near i j a b);
        symmetric = dissimilarity_same n (entry n left) (closure n (entry n l)) left_at table.symmetric;
      }

-- ---- any call: it is accepted, or leaves the table as it was

module _ (n : ℕ) (l : List ℕ) where
  unchanged : (r : Numbered) → close_verdict n l ≡ refused r → (close_answer n l ≡ refusal r) × (close_leaves n l ≡ l)
  unfolding close_answer close_leaves
  unchanged r e = (ap (λ v. replied v (lowered_pairs n (entry n l))) e, ap (λ v. settled v (closed_table n l) l) e)

  either : Closable n l ⊎ (close_leaves n l ≡ l)
  either = by (close_verdict n l) refl
    where
      by : (v : Verdict) → close_verdict n l ≡ v → Closable n l ⊎ (close_leaves n l ≡ l)
      by accepted e = inl (closable_of n l e)
      by (refused r) e = inr (unchanged r e).1

  first : IsFirst (close_reasons n l) (close_verdict n l)
  unfolding close_verdict
  first = is_first (close_reasons n l)

  only : (v : Verdict) → IsFirst (close_reasons n l) v → v ≡ close_verdict n l
  unfolding close_verdict
  only = only_first (close_reasons n l)

pub for_call : EveryCall
for_call n l =
    record {
      first = first n l;
      only = only n l;
      unchanged = unchanged n l;
      exactly = (closable_of n l, of_closable n l);
      answer = answers n l;
      lowered = left_at n l;
      past = ⊎_elim (left_past n l) (λ e. ap (drop (n * n)) e) (either n l);
      as_long = ⊎_elim (left_long n l) (λ e. ap length e) (either n l);
      untouched = λ R. ⊎_elim (λ M. left_same n l M R) (λ e. e) (either n l);
      twice = ⊎_elim (λ M. left_same n (close_leaves n l) (left_closable n l M) (left_obeys n l M)) (λ e. ap (close_leaves n) e) (either n l);
    }
