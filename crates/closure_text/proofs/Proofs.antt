-- The statements of specs/Theorems.antt: `for_closure`, `for_texts`. Assumes nothing.
use Prim.Native.Nat.{ℕ, ◌+◌, ◌≤◌, ◌<◌}
use native.Mathlib.Omega.{arith}
use mathlib.Core.Path.{◌≡◌, refl, sym, ap, ◌∙◌, subst}
use mathlib.Core.Logic.{◌↔◌, ⊎_elim}
use mathlib.Core.Bool.{true, false}
use mathlib.Core.List.{List}
use borrow.Author.Tests.{lt-ltb, le-ltb}
use lib.ListN.{length, get_or}
use Rattle.lists.proofs.Tests.{split}
use Rattle.lists.proofs.Tables.{length_tabulate, get_d_tabulate, tabulate_is}
use Rattle.study.specs.Study.{Tide, Study, size, no_tide, tide, distance, TriangleInequality, Valid, MeasuredStudy}
use Rattle.study.specs.Refusals.{number}
use Rattle.study.specs.Calls.{holds_duplicate}
use Rattle.study.proofs.StudyLaws.{distance_both_ways, distance_itself}
use Rattle.metric_closure.specs.Closure.{closure}
use Rattle.metric_closure.specs.Theorems.{ForTable}
use Rattle.metric_closure.proofs.ClosureLaws.{lowered_few}
use Rattle.metric_closure.proofs.TableLaws.{few_places}
use Rattle.metric_closure.proofs.Proofs.{for_table}
use Rattle.study_text.specs.declared.Rule.TheVariants as RuleCase
use Rattle.study_text.specs.Packing.{refused_at, ended, stopped, text_of}
use Rattle.closure_text.specs.Text.{lowered, closed_tide, closed_study, closure_text}
use Rattle.closure_text.specs.Theorems.{fresh, EveryStudy, EveryText}
use Rattle.closure_text.proofs.TextLaws.{text_measured}
use Rattle.closure_text.proofs.ReadBack.{read_back, read_refused}
use Rattle.closure_text.proofs.TextLength.{text_short}

module _ (S : Study) where
  -- the distances of any study are the same both ways
  closed : ForTable (size S) (distance S)
  closed =
      for_table (size S) (distance S)
      (record { both_ways = λ i j a b. distance_both_ways S i j; itself = λ i a. distance_itself S i })

  none_lowered : lowered S ≡ 0 ↔ TriangleInequality S
  unfolding lowered
  none_lowered = (
    λ e. (closed.none_lowered.0 e).triangle,
    λ R. closed.none_lowered.1 (record { triangle = R }),
  )

  -- ---- the study with the closure of its distances

  abbrev M : Study
  M = closed_study S

  closed_size : size M ≡ size S
  unfolding closed_study
  closed_size = length_tabulate (size S) (closed_tide S)

  tide_at : (t : ℕ) → t < size S → tide M t ≡ closed_tide S t
  unfolding closed_study tide
  tide_at t l = get_d_tabulate (size S) (closed_tide S) t no_tide l

  setting_at : (t : ℕ) → t < size S → (tide M t).setting ≡ (tide S t).setting
  unfolding closed_tide
  setting_at t l = ap (λ (x : Tide). x.setting) (tide_at t l)

  row_at : (t u : ℕ) → t < size S → u < t → get_or (tide M t).row u 0 ≡ closure (size S) (distance S) t u
  unfolding closed_tide
  row_at t u l k = ap (λ (x : Tide). get_or x.row u 0) (tide_at t l) ∙ get_d_tabulate t (closure (size S) (distance S) t) u 0 k

  row_long : (t : ℕ) → t < size S → length (tide M t).row ≡ t
  unfolding closed_tide
  row_long t l = ap (λ (x : Tide). length x.row) (tide_at t l) ∙ length_tabulate t (closure (size S) (distance S) t)

  distance_at : (t u : ℕ) → t < size S → u < size S → distance M t u ≡ closure (size S) (distance S) t u
  unfolding distance
  distance_at t u a b =
      ⊎_elim (λ l. rw (lt-ltb t u l) (row_at u t b l ∙ closed.symmetric.both_ways u t b a))
      (λ l. ⊎_elim (λ k. rw (le-ltb t u l, lt-ltb u t k) (row_at t u a k)) (λ k. rw (le-ltb t u l, le-ltb u t k) (same t u a (omega arith)))
      (split u t))
      (split t u)
    where
      same : (t u : ℕ) → t < size S → t ≡ u → 0 ≡ closure (size S) (distance S) t u
      same t u a e = sym (subst (λ z. closure (size S) (distance S) t z ≡ 0) e (closed.symmetric.itself t a))

  -- ---- of a measured study

  module _ (W : MeasuredStudy S) where
    closed_valid : Valid M
    unfolding closed_study
    closed_valid =
        record {
          k_low = W.k_low;
          k_high = W.k_high;
          few = omega (arith, W.few, closed_size);
          minima = W.minima;
          setting_low = λ t l. omega (arith, setting_at t (omega (arith, closed_size)), W.setting_low t (omega (arith, closed_size)));
          setting_high = λ t l. omega (arith, setting_at t (omega (arith, closed_size)), W.setting_high t (omega (arith, closed_size)));
          row_length = λ t l. row_long t (omega (arith, closed_size));
          distance_high = λ t u l k. high t u (omega (arith, closed_size)) (omega (arith, closed_size));
          triangle = λ t u v a b c. obeys t u v (omega (arith, closed_size)) (omega (arith, closed_size)) (omega (arith, closed_size));
        }
      where
        high : (t u : ℕ) → t < size S → u < size S → distance M t u ≤ 1048575
        high t u a b = omega (arith, distance_at t u a b, closed.lower.below t u a b, W.distance_high t u a b)

        obeys : (t u v : ℕ) → t < size S → u < size S → v < size S → distance M t v ≤ distance M t u + distance M u v
        obeys t u v a b c = omega (arith, closed.obeys.triangle t u v a b c, distance_at t v a c, distance_at t u a b, distance_at u v b c)

    -- ---- where the triangle inequality holds

    module _ (R : TriangleInequality S) where
      own_distance : (t u : ℕ) → t < size S → u < t → closure (size S) (distance S) t u ≡ get_or (tide S t).row u 0
      unfolding distance
      own_distance t u a l =
          closed.own (record { triangle = R }) t u a (omega arith) ∙ rw (le-ltb t u (omega arith), lt-ltb u t l)

      own_tide : (t : ℕ) → t < size S → closed_tide S t ≡ tide S t
      unfolding closed_tide
      own_tide t a =
          ap (λ (r : List ℕ). record { setting = (tide S t).setting; row = r })
          (tabulate_is t (closure (size S) (distance S) t) 0 (tide S t).row (W.row_length t a) (λ u l. own_distance t u a l))

      closed_own : closed_study S ≡ S
      unfolding closed_study tide
      closed_own =
          ap (λ (ts : List Tide). record { k = S.k; minima = S.minima; tides = ts })
          (tabulate_is (size S) (closed_tide S) no_tide S.tides refl own_tide)

    pairs_few : lowered S < 4294967296
    unfolding lowered
    pairs_few = omega (arith, lowered_few (size S) (distance S), few_places (size S) W.few)

    text_read : holds_duplicate M ≡ false → (l : ℕ) × (text_of RuleCase.Entered (closure_text S) ≡ ended (fresh M) l)
    unfolding closure_text
    text_read none = read_back (lowered S) M pairs_few closed_valid none

    text_refused : holds_duplicate M ≡ true → (l : ℕ) × (text_of RuleCase.Entered (closure_text S) ≡ stopped (refused_at l (number 15)))
    unfolding closure_text
    text_refused one = read_refused (lowered S) M pairs_few closed_valid one

    text_fits : length (closure_text S) ≤ 131072
    unfolding closure_text
    text_fits = text_short (lowered S) M pairs_few closed_valid

pub for_closure : EveryStudy
for_closure S W =
    record {
      valid = closed_valid S W;
      settings = setting_at S;
      distances = distance_at S;
      own = closed_own S W;
      none_lowered = none_lowered S;
      short = text_fits S W;
      read_back = text_read S W;
      read_refused = text_refused S W;
    }

pub for_texts : EveryText
for_texts text H l e = for_closure H.study (text_measured text H l e)
