-- What the code finds in the tables of two datasets is what the merged study has: the test of its distances, and its layout. Assumes nothing.
use Prim.Native.Nat.{ℕ, zero, suc, ◌+◌, ◌-◌, ◌*◌, ◌/◌, ◌%◌, ◌≤◌, ◌<◌}
use native.Mathlib.Omega.{arith}
use mathlib.Core.Path.{◌≡◌, refl, sym, ap, ap₂, ◌∙◌, subst}
use mathlib.Core.Logic.{◌⊎◌, inl, inr}
use mathlib.Core.Bool.{Bool, true, false}
use mathlib.Core.List.{List, ◌++◌, append-nil, append_assoc}
use lib.Dec.{T, leb, leb→le, le→leb}
use lib.ListN.{length, take, set, length-append, length-take}
use lib.Seq.{get_or-take}
use Rattle.lists.specs.Lists.{every, tabulate, overwrite, at, least}
use Rattle.lists.proofs.Tests.{T_true, split, every_at, every_of}
use Rattle.lists.proofs.Tables.{length_tabulate, get_d_tabulate, tabulate_suc, tabulate_is, tabulate_ext}
use Rattle.study.specs.Limits.{cell, max_tides, table_size, max_distance}
use Rattle.study.specs.Study.{Study, size, tide, distance, Valid}
use Rattle.study.specs.Calls.{entered}
use Rattle.study.proofs.StudyLaws.{distance_both_ways}
use Rattle.validity.specs.Memory.{State, study_of, distances_of, settings_of}
use Rattle.validity.specs.Validity.{IsStudy}
use Rattle.validity.proofs.ValidityLaws.{study_size, study_setting, study_distance, valid_study}
use Rattle.metric_closure.specs.Tables.{InRange}
use Rattle.storage.specs.Places.{with_row}
use Rattle.storage.proofs.PlaceLaws.{more_distances, more_settings, copied_distances, copied_settings}
use Rattle.merge.specs.Merge.{Shared, shared, rest, way, across, added, merged_study, in_range}
use Rattle.merge.specs.Sources.{Paired, RestIn}
use Rattle.merge.specs.Rows.{Tables, Remaining, sum_by, crossing, cross_row, added_row, row_in_range, stepped, with_rows, with_settings}
use Rattle.merge.proofs.SourceLaws.{pairs_are, first_tide, second_tide}
use Rattle.merge.proofs.RestLaws.{rest_long, rest_at}
use Rattle.merge.proofs.MergedLaws.{row_long}
use Rattle.merge.proofs.Proofs.{crossing_high, high_crossing}

-- ---- what the functions ask

-- all places of a dataset's table are in range: those beyond its tides hold 0
places_near : (s : State) → IsStudy s → InRange table_size s.distances
places_near s D =
    record {
      near = λ p l.
          let place : p / max_tides * max_tides + p % max_tides ≡ p = omega arith in
          subst (λ z. at s.distances z ≤ max_distance) place
          (by (p / max_tides) (p % max_tides) (omega arith) (omega arith) (split (p / max_tides) s.dataset.n) (split (p % max_tides) s.dataset.n));
    }
  where
    by : (i j : ℕ) → i < max_tides → j < max_tides → (i < s.dataset.n) ⊎ (s.dataset.n ≤ i) → (j < s.dataset.n) ⊎ (s.dataset.n ≤ j)
        → cell s.distances i j ≤ max_distance
    by i j h k (inl u) (inl v) = D.distance_high i j u v
    by i j h k (inl u) (inr v) = omega (arith, D.beyond i j h k (inr v))
    by i j h k (inr u) v = omega (arith, D.beyond i j h k (inl u))

pub paired_tables : {a b : State} {f g : List ℕ} → Paired a b f g → Tables a.distances b.distances f g
paired_tables {a} {b} S =
    let N = S.named in
    record {
      first_long = N.first.long.distances;
      second_long = N.second.long.distances;
      first_near = places_near a N.first.study;
      second_near = places_near b N.second.study;
      same_length = S.same_length;
      some = S.some;
      first_low = N.first_low;
      first_high = λ q l. omega (arith, N.first_high q l, N.first.study.few);
      second_low = N.second_low;
      second_high = λ q l. omega (arith, N.second_high q l, N.second.study.few);
    }

-- past 22: the remaining tides are in a table, and there is room for them
pub record Joining (a b : State) (f g : List ℕ) (count : ℕ) (table : List ℕ) : Type 0 where
  pub paired : Paired a b f g
  pub rest : RestIn (shared f g) b.dataset.n count table
  pub few : a.dataset.n + count ≤ max_tides

pub joining_remaining : {a b : State} {f g : List ℕ} {count : ℕ} {table : List ℕ} → Joining a b f g count table → Remaining a.dataset.n count table
joining_remaining J =
    record {
      few = J.few;
      size = J.rest.size;
      below = λ r l. omega (arith, J.rest.below r l, J.paired.named.second.study.few);
    }

-- ---- the least sum

module _ {a b : State} {f g : List ℕ} (S : Paired a b f g) (i j : ℕ) (h : i < a.dataset.n) (k : j < b.dataset.n) where
  way_is : (q : ℕ) → q < length f → sum_by a.distances b.distances f g i j q ≡ way (study_of a) (study_of b) (shared f g) i j q
  unfolding sum_by way
  way_is q l =
      let x = at f q - 1 in
      let y = at g q - 1 in
      omega (
        arith,
        study_distance a S.named.first.study x i (first_tide S.named q l refl) h,
        study_distance b S.named.second.study y j (second_tide S.named q l refl) k,
        distance_both_ways (study_of a) i x,
      )

  crossing_is : crossing a.distances b.distances f g i j ≡ across (study_of a) (study_of b) (shared f g) i j
  unfolding crossing across
  crossing_is =
      let w = way (study_of a) (study_of b) (shared f g) i j in
      ap least (tabulate_ext (length f) (sum_by a.distances b.distances f g i j) w way_is)
      ∙ ap (λ z. least (tabulate z w)) (sym (pairs_are f g S.same_length))

-- ---- the remaining tides' rows

module _ {a b : State} {f g : List ℕ} {count : ℕ} {table : List ℕ} (J : Joining a b f g count table) where
  abbrev A : Study
  A = study_of a

  abbrev B : Study
  B = study_of b

  abbrev P : Shared
  P = shared f g

  abbrev M : Study
  M = merged_study A B P

  abbrev n : ℕ
  n = a.dataset.n

  long_rest : length (rest B P) ≡ count
  long_rest = rest_long B P J.rest (study_size b)

  nth : (r : ℕ) → r < count → at (rest B P) r ≡ at table r
  nth = rest_at B P J.rest (study_size b)

  -- to the first's tides
  abbrev cross : ℕ → ℕ → ℕ
  cross r i = across A B P i (at (rest B P) r)

  front : (r : ℕ) → r < count → take n (cross_row a.distances b.distances f g (at table r)) ≡ tabulate (size A) (cross r)
  unfolding cross_row
  front r l = sym (tabulate_is (size A) (cross r) 0 (take n row) long found)
    where
      sums : ℕ → ℕ
      sums i = crossing a.distances b.distances f g i (at table r)

      row : List ℕ
      row = tabulate max_tides sums

      long : length (take n row) ≡ size A
      long = simp (length-take, length_tabulate) (omega (arith, study_size a, J.few))

      found : (i : ℕ) → i < size A → cross r i ≡ at (take n row) i
      found i h =
          let k : i < n = omega (arith, study_size a) in
          ap (across A B P i) (nth r l) ∙ sym (crossing_is J.paired i (at table r) k (J.rest.below r l))
          ∙ sym (get_or-take n row i 0 k ∙ get_d_tabulate max_tides sums i 0 (omega (arith, J.few)))

  -- and to the remaining ones before
  back : (r : ℕ) → r < count → (q : ℕ) → q < r → cell b.distances (at table q) (at table r) ≡ distance B (at (rest B P) q) (at (rest B P) r)
  back r l q h =
      let k : q < count = omega arith in
      sym (ap₂ (distance B) (nth q k) (nth r l) ∙ study_distance b J.paired.named.second.study _ _ (J.rest.below q k) (J.rest.below r l))

  row_is : (r : ℕ) → r < count → added_row n a.distances b.distances f g table r ≡ (added A B P r).row
  unfolding added_row added
  row_is r l = ap₂ (λ x y. x ++ y) (front r l) (tabulate_ext r _ _ (back r l))

  setting_is : (r : ℕ) → r < count → at b.settings (at table r) ≡ (added A B P r).setting
  unfolding added
  setting_is r l = sym (ap (λ z. (tide B z).setting) (nth r l) ∙ study_setting b (at table r) (J.rest.below r l))

  -- ---- reason 6: the distances from one dataset to the other's remaining tides decide

  abbrev pub near : ℕ → Bool
  near r = row_in_range (take a.dataset.n (cross_row a.distances b.distances f g (at table r)))

  pub crossing_test : every count near ≡ in_range M
  crossing_test = same_truth (every count near) (in_range M) there returned
    where
      ok_a : Valid A
      ok_a = valid_study a J.paired.named.first.study

      ok_b : Valid B
      ok_b = valid_study b J.paired.named.second.study

      same_truth : (x y : Bool) → (T x → T y) → (T y → T x) → x ≡ y
      same_truth true y p q = sym (T_true y (p tt))
      same_truth false true p q = absurd (q tt)
      same_truth false false p q = refl

      row : ℕ → List ℕ
      row r = tabulate (size A) (cross r)

      there : T (every count near) → T (in_range M)
      there h =
          high_crossing A B P ok_a ok_b (λ i r k l.
          let r_in : r < count = omega (arith, long_rest) in
          let tested : T (row_in_range (row r)) = subst (λ z. T (row_in_range z)) (front r r_in) (every_at count near h r r_in) in
          let high = every_at (length (row r)) (λ i. leb (at (row r) i) max_distance) tested i (omega (arith, length_tabulate (size A) (cross r))) in
          omega (arith, leb→le (at (row r) i) max_distance high, get_d_tabulate (size A) (cross r) i 0 k))

      returned : T (in_range M) → T (every count near)
      returned h =
          every_of count near (λ r l. subst (λ z. T (row_in_range z)) (sym (front r l))
          (every_of (length (row r)) (λ i. leb (at (row r) i) max_distance) (λ i k.
          let i_in : i < size A = omega (arith, length_tabulate (size A) (cross r)) in
          let high = crossing_high A B P ok_a ok_b h i r i_in (omega (arith, long_rest)) in
          le→leb (at (row r) i) max_distance (omega (arith, get_d_tabulate (size A) (cross r) i 0 i_in)))))

  -- ---- the layout: as after so many calls of Enter, one for each remaining tide

  -- the first's tides and the first r remaining ones
  abbrev grown : ℕ → Study
  grown r = record { k = A.k; minima = A.minima; tides = A.tides ++ tabulate r (added A B P) }

  grown_none : grown 0 ≡ A
  unfolding tabulate
  grown_none = λ i. record { k = A.k; minima = A.minima; tides = append-nil A.tides i }

  grown_more : (r : ℕ) → grown (suc r) ≡ entered (added A B P r).setting (added A B P r).row (grown r)
  unfolding entered
  grown_more r =
      let tides = ap (λ z. A.tides ++ z) (tabulate_suc r (added A B P)) ∙ sym (append_assoc A.tides (tabulate r (added A B P)) _) in
      λ i. record { k = A.k; minima = A.minima; tides = tides i }

  grown_all : grown count ≡ M
  unfolding merged_study
  grown_all = ap grown (sym long_rest)

  grown_size : (r : ℕ) → size (grown r) ≡ n + r
  grown_size r = length-append A.tides (tabulate r (added A B P)) ∙ omega (arith, study_size a, length_tabulate r (added A B P))

  -- a tide that is added has a distance for each of them, and there is room for it
  grown_row : (r : ℕ) → length (added A B P r).row ≡ size (grown r)
  grown_row r = row_long A B P r ∙ omega (arith, study_size a, grown_size r)

  grown_few : (r : ℕ) → r < count → size (grown r) < max_tides
  grown_few r l = omega (arith, grown_size r, J.few)

  -- steps of which each lays out one tide more
  steps_laid : (layout : Study → List ℕ) (step : ℕ → List ℕ → List ℕ)
      → ((r : ℕ) → r < count → step r (layout (grown r)) ≡ layout (entered (added A B P r).setting (added A B P r).row (grown r)))
      → (r : ℕ) → r ≤ count → stepped step r (layout A) ≡ layout (grown r)
  unfolding stepped
  steps_laid layout step h zero l = ap layout (sym grown_none)
  steps_laid layout step h (suc r) l = ap (step r) (steps_laid layout step h r (omega arith)) ∙ h r l ∙ ap layout (sym (grown_more r))

  module _ (l : List ℕ) where
    pub distances_laid : {d : List ℕ} → table_size ≤ length l
        → d ≡ with_rows (added_row a.dataset.n a.distances b.distances f g table) count (overwrite table_size (at a.distances) l)
        → d ≡ distances_of (merged_study (study_of a) (study_of b) (shared f g)) l
    distances_laid fits e =
        e ∙ ap (with_rows rows count) (copied_distances a J.paired.named.first.study l)
        ∙ steps_laid (λ S. distances_of S l) (λ r. with_row (rows r) (length (rows r))) row_laid count (omega arith)
        ∙ ap (λ S. distances_of S l) grown_all
      where
        rows : ℕ → List ℕ
        rows = added_row n a.distances b.distances f g table

        row_laid : (r : ℕ) → r < count
            → with_row (rows r) (length (rows r)) (distances_of (grown r) l)
            ≡ distances_of (entered (added A B P r).setting (added A B P r).row (grown r)) l
        row_laid r h =
            ap (λ row. with_row row (length row) (distances_of (grown r) l)) (row_is r h)
            ∙ more_distances (grown r) (added A B P r).setting (added A B P r).row (grown_row r) (grown_few r h) l fits

    pub settings_laid : {t : List ℕ} → max_tides ≤ length l
        → t ≡ with_settings a.dataset.n (λ r. at b.settings (at table r)) count (overwrite max_tides (at a.settings) l)
        → t ≡ settings_of (merged_study (study_of a) (study_of b) (shared f g)) l
    settings_laid fits e =
        e ∙ ap (with_settings n settings count) (copied_settings a J.paired.named.first.study l)
        ∙ steps_laid (λ S. settings_of S l) (λ r g. set g (n + r) (settings r)) setting_laid count (omega arith)
        ∙ ap (λ S. settings_of S l) grown_all
      where
        settings : ℕ → ℕ
        settings r = at b.settings (at table r)

        setting_laid : (r : ℕ) → r < count
            → set (settings_of (grown r) l) (n + r) (settings r) ≡ settings_of (entered (added A B P r).setting (added A B P r).row (grown r)) l
        setting_laid r h =
            ap₂ (λ (i x : ℕ). set (settings_of (grown r) l) i x) (sym (grown_size r)) (setting_is r h)
            ∙ more_settings (grown r) (added A B P r).setting (added A B P r).row (grown_row r) (grown_few r h) l fits
