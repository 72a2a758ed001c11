-- The statements of Theorems.antt, proved. Assumes nothing.
use Prim.Native.Nat.{ℕ, ◌+◌, ◌≤◌, ◌<◌, zero-le}
use native.Mathlib.Omega.{arith}
use mathlib.Core.Path.{◌≡◌, refl, ap, ◌∙◌}
use mathlib.Core.Logic.{⊎_elim}
use mathlib.Core.Bool.{not}
use mathlib.Core.List.{List}
use lib.Dec.{T, leb, eqb, leb→le, le→leb, T_not}
use lib.ListN.{length}
use Rattle.lists.specs.Lists.{every, at}
use Rattle.lists.proofs.Tests.{not_not, split, every_at, every_of, eq→eqb}
use Rattle.lists.proofs.Tables.{length_tabulate, get_d_tabulate}
use Rattle.study.specs.Limits.{max_tides, max_distance, max_users, max_withdrawals}
use Rattle.study.specs.Study.{Tide, Study, size, tide, distance, Valid, ValidCounts}
use Rattle.study.proofs.StudyLaws.{distance_both_ways, distance_itself}
use Rattle.study.proofs.CallLaws.{none_holds}
use Rattle.merge.specs.Merge.{Shared, shared, rest, across, merged_study, added_counts, merged, place, agree, in_range, countable, merge_reasons}
use Rattle.merge.specs.Theorems.{Agree, ForPairs, LeastSum, Merges, ForMerges}
use Rattle.merge.proofs.AcrossLaws.{across_le, through}
use Rattle.merge.proofs.AgreeLaws.{agree_says, agree_exactly}
use Rattle.merge.proofs.PlaceLaws.{rest_inside, by_share, place_shared, place_rest, place_apart}
use Rattle.merge.proofs.MergedLaws.{merged_size, old_tide, new_tide, by_origin, old_setting, new_setting, old_distance, row_long, cross_distance}
use Rattle.merge.proofs.MergedLaws.{cross_back, new_distance, merged_triangle, across_is, merged_keeps, merged_greatest}

-- ---- distances in range

module _ (S : Study) where
  -- of all pairs, where it is of each tide with those before it
  pub in_range_at : T (in_range S) → (t u : ℕ) → t < size S → u < size S → distance S t u ≤ max_distance
  unfolding in_range
  in_range_at h t u a b =
      ⊎_elim (λ s. ordered t u s b)
      (λ s. ⊎_elim (λ k. omega (arith, distance_both_ways S t u, ordered u t k a))
      (λ k. let e : t ≡ u = omega arith in rw (e, distance_itself S u) zero-le) (split u t))
      (split t u)
    where
      ordered : (u t : ℕ) → u < t → t < size S → distance S u t ≤ max_distance
      ordered u t k l =
          leb→le (distance S u t) max_distance
          (every_at t (λ u. leb (distance S u t) max_distance) (every_at (size S) (λ t. every t (λ u. leb (distance S u t) max_distance)) h t l) u k)

  pub in_range_of : ((t u : ℕ) → t < size S → u < size S → distance S t u ≤ max_distance) → T (in_range S)
  unfolding in_range
  in_range_of h =
      every_of (size S) (λ t. every t (λ u. leb (distance S u t) max_distance)) (λ t l.
      every_of t (λ u. leb (distance S u t) max_distance) (λ u k. le→leb (distance S u t) max_distance (h u t (omega arith) l)))

-- all distances of the merged study are in range where those from one study to the other's remaining tides are: the others are old
module _ (A B : Study) (P : Shared) (ok_a : Valid A) (ok_b : Valid B) where
  abbrev N : Study
  N = merged_study A B P

  pub crossing_high : T (in_range N) → (i r : ℕ) → i < size A → r < length (rest B P) → across A B P i (at (rest B P) r) ≤ max_distance
  crossing_high h i r a b =
      omega (
        arith,
        cross_distance A B P i r a b,
        in_range_at N h i (size A + r) (omega (arith, merged_size A B P)) (omega (arith, merged_size A B P)),
      )

  pub high_crossing : ((i r : ℕ) → i < size A → r < length (rest B P) → across A B P i (at (rest B P) r) ≤ max_distance) → T (in_range N)
  high_crossing h = in_range_of N all
    where
      from_old : (t u : ℕ) → t < size A → u < size N → distance N t u ≤ max_distance
      from_old t u a b =
          by_origin A B P (λ u. distance N t u ≤ max_distance)
          (λ u b. omega (arith, old_distance A B P t u a b, ok_a.distance_high t u a b))
          (λ r b. omega (arith, cross_distance A B P t r a b, h t r a b)) u b

      from_rest : (q u : ℕ) → q < length (rest B P) → u < size N → distance N (size A + q) u ≤ max_distance
      from_rest q u a b =
          by_origin A B P (λ u. distance N (size A + q) u ≤ max_distance)
          (λ u b. omega (arith, cross_back A B P q u a b, h u q b a))
          (λ r b. let high = ok_b.distance_high (at (rest B P) q) (at (rest B P) r) (rest_inside B P q a) (rest_inside B P r b) in
          omega (arith, new_distance A B P q r a b)) u b

      all : (t u : ℕ) → t < size N → u < size N → distance N t u ≤ max_distance
      all t u a b = by_origin A B P (λ t. distance N t u ≤ max_distance) (λ t a. from_old t u a b) (λ q a. from_rest q u a b) t a

-- ---- two valid studies that agree

module _ (A B : Study) (P : Shared) (ok_a : Valid A) (ok_b : Valid B) (G : Agree A B P) where
  abbrev M : Study
  M = merged_study A B P

  abbrev js : List ℕ
  js = rest B P

  -- every tide of the second study has a place
  place_inside : (j : ℕ) → j < size B → place A P j < size M
  place_inside j l =
      by_share B P (λ j. place A P j < size M)
      (λ q m. omega (arith, place_shared A B P G q m, G.first_inside q m, merged_size A B P))
      (λ r k. omega (arith, place_rest A B P G r k, merged_size A B P)) j l

  second_setting : (j : ℕ) → j < size B → (tide M (place A P j)).setting ≡ (tide B j).setting
  second_setting j l =
      by_share B P (λ j. (tide M (place A P j)).setting ≡ (tide B j).setting)
      (λ q m. ap (λ z. (tide M z).setting) (place_shared A B P G q m) ∙ old_setting A B P (P.first q) (G.first_inside q m) ∙ G.setting q m)
      (λ r k. ap (λ z. (tide M z).setting) (place_rest A B P G r k) ∙ new_setting A B P r k) j l

  least_sum : (i j : ℕ) → i < size A → j < size B → LeastSum A B P i j (distance M i (place A P j))
  least_sum i j a b =
      let e = across_is A B P G ok_a.triangle ok_b.triangle i j a b in
      let w = through A B P G.named i j in
      record { pair = w.pair; inside = w.inside; attained = e ∙ w.sum; least = λ q l. omega (arith, e, across_le A B P i j q l) }

  merges : Merges A B P M
  unfolding merged_study
  merges =
      record {
        size_is = merged_size A B P;
        place_shared = place_shared A B P G;
        place_rest = place_rest A B P G;
        place_inside = place_inside;
        place_apart = place_apart A B P G;
        first_setting = old_setting A B P;
        second_setting = second_setting;
        k = refl;
        minima = refl;
        least_sum = least_sum;
        keeps = merged_keeps A B P G ok_a.triangle ok_b.triangle;
        obeys = record { triangle = merged_triangle A B P G ok_a.triangle ok_b.triangle };
        greatest = merged_greatest A B P G ok_a.triangle ok_b.triangle;
      }

  -- a row has a distance for each tide before
  row_lengths : (t : ℕ) → t < size M → length (tide M t).row ≡ t
  row_lengths t l =
      by_origin A B P (λ t. length (tide M t).row ≡ t)
      (λ t k. ap (λ (x : Tide). length x.row) (old_tide A B P t k) ∙ ok_a.row_length t k)
      (λ r k. ap (λ (x : Tide). length x.row) (new_tide A B P r k) ∙ row_long A B P r) t l

  valid_study : size M ≤ max_tides → T (in_range M) → Valid M
  unfolding merged_study
  valid_study few high =
      record {
        k_low = ok_a.k_low;
        k_high = ok_a.k_high;
        few = few;
        minima = ok_a.minima;
        setting_low = by_origin A B P (λ t. 1 ≤ (tide M t).setting) (λ t l. rw (old_setting A B P t l) (ok_a.setting_low t l))
            (λ r l. rw (new_setting A B P r l) (ok_b.setting_low (at js r) (rest_inside B P r l)));
        setting_high = by_origin A B P (λ t. (tide M t).setting ≤ A.k) (λ t l. rw (old_setting A B P t l) (ok_a.setting_high t l))
            (λ r l. omega (arith, new_setting A B P r l, G.k, ok_b.setting_high (at js r) (rest_inside B P r l)));
        row_length = row_lengths;
        distance_high = in_range_at M high;
        triangle = merged_triangle A B P G ok_a.triangle ok_b.triangle;
      }

-- ---- where no reason holds

counts_valid : (vs ws : List ℕ) → T (countable (added_counts vs ws)) → ValidCounts (added_counts vs ws)
unfolding added_counts countable
counts_valid vs ws t =
    let sum : ℕ → ℕ = λ i. at vs i + at ws i in
    record {
      four = length_tabulate max_users sum;
      high = λ i l. leb→le (at (added_counts vs ws) i) max_withdrawals (every_at max_users (λ i. leb (at (added_counts vs ws) i) max_withdrawals) t i l);
    }

some_pair : (n : ℕ) → T (not (eqb n 0)) → 0 < n
some_pair n t = ⊎_elim (λ l. l) (λ l. let z : n ≡ 0 = omega arith in absurd (T_not (eqb n 0) t (eq→eqb n 0 z))) (split 0 n)

pub for_pairs : ForPairs
for_pairs = agree_exactly

pub for_merges : ForMerges
unfolding merge_reasons merged added_counts
for_merges A B firsts seconds ok_a ok_b e =
    let P = shared firsts seconds in
    let none = none_holds (merge_reasons A B firsts seconds) e in
    let M = merged_study A.study B.study P in
    let ws = added_counts A.withdrawals B.withdrawals in
    let agreed = agree_says A.study B.study firsts seconds (some_pair P.pairs none.0)
    (not_not (agree A.study B.study firsts seconds) none.1.0) in
    let few = leb→le (size M) max_tides (not_not (leb (size M) max_tides) none.1.1.0) in
    let high = not_not (in_range M) none.1.1.1.0 in
    let counted = not_not (countable ws) none.1.1.1.1.0 in
    record {
      agree = agreed;
      merges = merges A.study B.study P ok_a.study ok_b.study agreed;
      counts = λ i l. get_d_tabulate max_users (λ i. at A.withdrawals i + at B.withdrawals i) i 0 l;
      valid = record {
        study = valid_study A.study B.study P ok_a.study ok_b.study agreed few high;
        counts = counts_valid A.withdrawals B.withdrawals counted;
      };
    }
