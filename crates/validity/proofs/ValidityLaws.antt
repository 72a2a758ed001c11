-- Reason 21 in plain words: what it says that a record and memory are a dataset, and that the contents of a dataset are valid.
-- Assumes nothing.
use Prim.Native.Nat.{ℕ, ◌+◌, ◌≤◌, ◌<◌}
use native.Mathlib.Omega.{arith}
use mathlib.Core.Path.{◌≡◌, refl, sym, ap, ◌∙◌, subst}
use mathlib.Core.Logic.{◌⊎◌, inl, inr, ⊎_elim, ◌↔◌}
use mathlib.Core.Bool.{Bool, true, false, cond, ◌&&◌, not}
use mathlib.Core.List.{List, [], ◌∷◌}
use lib.Dec.{T, leb, ltb, eqb, leb→le, le→leb, ltb→lt, lt→ltb, nltb→le, eqb→eq, eqb_refl, not_T}
use lib.Arith.{le→nltb}
use borrow.Author.Tests.{le-leb, eq-eqb}
use lib.ListN.{length, get_or}
use Rattle.lists.specs.Lists.{between, each, every, sum_below}
use Rattle.lists.proofs.Tests.{and_T, T-left, T-right, T_true, test, between-T, Each, each_at, each_of, cond_yes, cond_no, every_at, every_of, eq→eqb}
use Rattle.lists.proofs.Tables.{length_tabulate, get_d_tabulate}
use Rattle.lists.proofs.Scans.{and_true, each_fails}
use Rattle.study.specs.Limits.{cell}
use Rattle.study.specs.declared.Minima.{Minima}
use Rattle.study.specs.Study.{Tide, Valid, ValidCounts, size, no_tide, tide, distance, valid_minima}
use Rattle.study.specs.Calls.{violations}
use Rattle.study.specs.Theorems.{ValidContents}
use Rattle.study.proofs.StudyLaws.{valid_minima-T, distance_both_ways, distance_itself}
use Rattle.study.specs.Triangle.{Triangle}
use Rattle.study.proofs.TriangleLaws.{obeyed, obeyed_of, ordered_triangle}
use Rattle.std.specs.Prelude.{Option, is_some}
use Rattle.triangle.specs.Pairs.{violation_of}
use Rattle.triangle.proofs.PairLaws.{found_tells, row_in, part_found}
use Rattle.validity.specs.Memory.{State, valid_setting, valid_place, valid_row, is_study, valid_counts, is_dataset, tide_of, study_of, contents_of}
use Rattle.validity.specs.Validity.{IsStudy, IsDataset}

-- ---- the study that is read off record and memory

module _ (s : State) where
  pub study_size : size (study_of s) ≡ s.dataset.n
  unfolding study_of
  study_size = length_tabulate s.dataset.n (tide_of s)

  pub study_tide : (t : ℕ) → t < s.dataset.n → tide (study_of s) t ≡ tide_of s t
  unfolding study_of tide
  study_tide t l = get_d_tabulate s.dataset.n (tide_of s) t no_tide l

  pub study_setting : (t : ℕ) → t < s.dataset.n → (tide (study_of s) t).setting ≡ get_or s.settings t 0
  unfolding tide_of
  study_setting t l = ap (λ (x : Tide). x.setting) (study_tide t l)

  study_row : (t u : ℕ) → t < s.dataset.n → u < t → get_or (tide (study_of s) t).row u 0 ≡ cell s.distances t u
  unfolding tide_of
  study_row t u l k = ap (λ (x : Tide). get_or x.row u 0) (study_tide t l) ∙ get_d_tabulate t (cell s.distances t) u 0 k

  module _ (both_ways : (i j : ℕ) → i < s.dataset.n → j < s.dataset.n → cell s.distances i j ≡ cell s.distances j i)
      (itself : (i : ℕ) → i < s.dataset.n → cell s.distances i i ≡ 0) where
    distance_by : (t u : ℕ) → t < s.dataset.n → u < s.dataset.n → distance (study_of s) t u ≡ cell s.distances t u
    unfolding distance
    distance_by t u a b =
        ⊎_elim (λ p. cond_yes (ltb t u) _ _ p ∙ study_row u t b (ltb→lt t u p) ∙ both_ways u t b a)
        (λ p. cond_no (ltb t u) _ _ p
        ∙ ⊎_elim (λ q. cond_yes (ltb u t) _ _ q ∙ study_row t u a (ltb→lt u t q))
        (λ q. cond_no (ltb u t) _ _ q ∙ sym (subst (λ z. cell s.distances t z ≡ 0) (omega (arith, nltb→le t u p, nltb→le u t q)) (itself t a)))
        (test (ltb u t)))
        (test (ltb t u))

    -- each tide obeys the rule with every pair before it, so any three do
    rule_by : T (every s.dataset.n (valid_row s.distances)) → (t u v : ℕ) → t < s.dataset.n → u < s.dataset.n → v < s.dataset.n
        → cell s.distances t v ≤ cell s.distances t u + cell s.distances u v
    unfolding valid_row
    rule_by h t u v a b c =
        let r = ordered_triangle (distance (study_of s)) (distance_both_ways (study_of s)) (distance_itself (study_of s)) s.dataset.n triple t u v a b c in
        omega (arith, distance_by t v a c, distance_by t u a b, distance_by u v b c)
      where
        triple : (i j l : ℕ) → i < j → j < l → l < s.dataset.n
            → Triangle (distance (study_of s) i j) (distance (study_of s) i l) (distance (study_of s) j l)
        triple i j l p q m =
            let a : i < s.dataset.n = omega arith in
            let b : j < s.dataset.n = omega arith in
            rw (distance_by i j a b, distance_by i l a m, distance_by j l b m, both_ways i l a m, both_ways j l b m)
            (obeyed (cell s.distances) l (cell s.distances l) (every_at s.dataset.n (valid_row s.distances) h l m) i j p q)

-- ---- a test that goes by another

from_yes : (b x y : Bool) → T b → T (cond b x y) → T x
from_yes b x y t h = subst T (cond_yes b x y t) h

from_no : (b x y : Bool) → T (not b) → T (cond b x y) → T y
from_no b x y t h = subst T (cond_no b x y t) h

to_cond : (b x y : Bool) → (T b → T x) → (T (not b) → T y) → T (cond b x y)
to_cond true x y f g = f tt
to_cond false x y f g = g tt

pub not_both : (a b : Bool) → T (not (a && b)) → T (not a) ⊎ T (not b)
not_both true b t = inr t
not_both false b t = inl tt

-- a test before one that holds
first_decides : (b : Bool) → b ≡ each (b ∷ true ∷ [])
first_decides true = refl
first_decides false = refl

-- the test of the counts says exactly what the record says
pub valid_counts-T : (ws : List ℕ) → T (valid_counts ws) ↔ ValidCounts ws
unfolding valid_counts
valid_counts-T ws = (
  λ t. let p = each_at tests t in
      record { four = eqb→eq (length ws) 4 p.0; high = λ i l. leb→le (get_or ws i 0) 65535 (every_at 4 in_range p.1.0 i l) },
  λ C. each_of tests (eq→eqb (length ws) 4 C.four, (every_of 4 in_range (λ i l. le→leb (get_or ws i 0) 65535 (C.high i l)), tt)),
)
  where
    in_range : ℕ → Bool
    in_range i = leb (get_or ws i 0) 65535

    tests : List Bool
    tests = eqb (length ws) 4 ∷ every 4 in_range ∷ []

-- ---- the tests, one by one

module _ (s : State) where
  abbrev n : ℕ
  n = s.dataset.n

  abbrev d : List ℕ
  d = s.distances

  abbrev g : List ℕ
  g = s.settings

  abbrev k : ℕ
  k = s.dataset.k

  -- the tests that `is_study` makes
  abbrev pub tests : List Bool
  tests =
      between 1 8 k
      ∷ leb n 120
      ∷ valid_minima s.dataset.k s.dataset.minima
      ∷ every 120 (valid_setting k n g)
      ∷ every 120 (λ i. every 120 (valid_place n d i))
      ∷ every n (valid_row d)
      ∷ []

  abbrev held? : ℕ → ℕ → Bool
  held? i j = ltb i n && ltb j n

  abbrev cell_tests : ℕ → ℕ → List Bool
  cell_tests i j = leb (cell d i j) 1048575 ∷ eqb (cell d i j) (cell d j i) ∷ cond (eqb i j) (eqb (cell d i j) 0) true ∷ []

  inside : (i j : ℕ) → i < n → j < n → T (held? i j)
  inside i j a b = and_T (ltb i n) (ltb j n) (lt→ltb i n a) (lt→ltb j n b)

  outside : (i j : ℕ) → (n ≤ i) ⊎ (n ≤ j) → T (not (held? i j))
  outside i j (inl o) = not_T (held? i j) (λ h. omega (arith, ltb→lt i n (T-left (ltb i n) (ltb j n) h)))
  outside i j (inr o) = not_T (held? i j) (λ h. omega (arith, ltb→lt j n (T-right (ltb i n) (ltb j n) h)))

  module _ (t : T (is_study s)) where
    passed : Each tests
    unfolding is_study
    passed = each_at tests t

    few : n ≤ 120
    few = leb→le n 120 passed.1.0

    place_at : (i j : ℕ) → i < 120 → j < 120 → T (valid_place n d i j)
    place_at i j a b =
        every_at 120 (valid_place n d i) (every_at 120 (λ i. every 120 (valid_place n d i)) passed.1.1.1.1.0 i a) j b

    cell_at : (i j : ℕ) → i < n → j < n → Each (cell_tests i j)
    unfolding valid_place
    cell_at i j a b =
        each_at (cell_tests i j)
        (from_yes (held? i j) (each (cell_tests i j)) (eqb (cell d i j) 0) (inside i j a b) (place_at i j (omega (arith, few)) (omega (arith, few))))

    setting_at : (i : ℕ) → i < n → (1 ≤ get_or g i 0) × (get_or g i 0 ≤ s.dataset.k)
    unfolding valid_setting
    setting_at i l =
        (between-T 1 k (get_or g i 0)).0
        (from_yes (ltb i n) (between 1 k (get_or g i 0)) (eqb (get_or g i 0) 0) (lt→ltb i n l)
        (every_at 120 (valid_setting k n g) passed.1.1.1.0 i (omega (arith, few))))

    same_ways : (i j : ℕ) → i < n → j < n → cell d i j ≡ cell d j i
    same_ways i j a b = eqb→eq (cell d i j) (cell d j i) (cell_at i j a b).1.0

    at_itself : (i : ℕ) → i < n → cell d i i ≡ 0
    at_itself i a = eqb→eq (cell d i i) 0 (from_yes (eqb i i) (eqb (cell d i i) 0) true (eqb_refl i) (cell_at i i a a).1.1.0)

    told : IsStudy s
    unfolding valid_place valid_setting
    told =
        let settings = (between-T 1 8 k).0 passed.0 in
        record {
          few = few;
          k_low = settings.0;
          k_high = settings.1;
          minima = (valid_minima-T k s.dataset.minima).0 passed.1.1.0;
          setting_low = λ i l. (setting_at i l).0;
          setting_high = λ i l. (setting_at i l).1;
          distance_high = λ i j a b. leb→le (cell d i j) 1048575 (cell_at i j a b).0;
          both_ways = same_ways;
          itself = at_itself;
          triangle = rule_by s same_ways at_itself passed.1.1.1.1.1.0;
          setting_beyond = λ i l m.
              eqb→eq (get_or g i 0) 0
              (from_no (ltb i n) (between 1 k (get_or g i 0)) (eqb (get_or g i 0) 0) (le→nltb i n l)
              (every_at 120 (valid_setting k n g) passed.1.1.1.0 i m));
          beyond = λ i j a b o.
              eqb→eq (cell d i j) 0 (from_no (held? i j) (each (cell_tests i j)) (eqb (cell d i j) 0) (outside i j o) (place_at i j a b));
        }

  module _ (D : IsStudy s) where
    setting_of : (i : ℕ) → i < 120 → T (valid_setting k n g i)
    unfolding valid_setting
    setting_of i l =
        to_cond (ltb i n) (between 1 k (get_or g i 0)) (eqb (get_or g i 0) 0)
        (λ h. (between-T 1 k (get_or g i 0)).1 (D.setting_low i (ltb→lt i n h), D.setting_high i (ltb→lt i n h)))
        (λ h. eq→eqb (get_or g i 0) 0 (D.setting_beyond i (nltb→le i n h) l))

    cell_of : (i j : ℕ) → i < n → j < n → Each (cell_tests i j)
    cell_of i j a b = (
      le→leb (cell d i j) 1048575 (D.distance_high i j a b),
      (
        eq→eqb (cell d i j) (cell d j i) (D.both_ways i j a b),
        (
          to_cond (eqb i j) (eqb (cell d i j) 0) true
              (λ h. eq→eqb (cell d i j) 0 (subst (λ z. cell d i z ≡ 0) (eqb→eq i j h) (D.itself i a))) (λ h. tt),
          tt,
        ),
      ),
    )

    place_of : (i j : ℕ) → i < 120 → j < 120 → T (valid_place n d i j)
    unfolding valid_place
    place_of i j a b =
        to_cond (held? i j) (each (cell_tests i j)) (eqb (cell d i j) 0)
        (λ h. each_of (cell_tests i j) (cell_of i j (ltb→lt i n (T-left (ltb i n) (ltb j n) h)) (ltb→lt j n (T-right (ltb i n) (ltb j n) h))))
        (λ h. eq→eqb (cell d i j) 0
        (D.beyond i j a b (⊎_elim (λ q. inl (nltb→le i n q)) (λ q. inr (nltb→le j n q)) (not_both (ltb i n) (ltb j n) h))))

    row_of : (t : ℕ) → t < n → T (valid_row d t)
    unfolding valid_row
    row_of t l =
        obeyed_of (cell d) t (cell d t) (λ i j a b.
        let p : i < n = omega arith in
        let q : j < n = omega arith in
        record {
          first = omega (arith, D.triangle i t j p l q, D.both_ways i t p l);
          second = omega (arith, D.triangle t j i l q p, D.both_ways j i q p);
          third = omega (arith, D.triangle t i j l p q);
        })

    tested : T (is_study s)
    unfolding is_study
    tested =
        each_of tests (
          (between-T 1 8 k).1 (D.k_low, D.k_high),
          (
            le→leb n 120 D.few,
            (
              (valid_minima-T k s.dataset.minima).1 D.minima,
              (
                every_of 120 (valid_setting k n g) setting_of,
                (
                  every_of 120 (λ i. every 120 (valid_place n d i)) (λ i a. every_of 120 (valid_place n d i) (λ j b. place_of i j a b)),
                  (every_of n (valid_row d) row_of, tt),
                ),
              ),
            ),
          ),
        )

  -- one of the tests fails
  pub no_study : (i : ℕ) → get_or tests i true ≡ false → false ≡ is_study s
  unfolding is_study
  no_study i e = sym (each_fails tests i e)

  -- all but the last have passed
  pub rows_decide : between 1 8 k ≡ true → n ≤ 120 → valid_minima k s.dataset.minima ≡ true → every 120 (valid_setting k n g) ≡ true
      → every 120 (λ i. every 120 (valid_place n d i)) ≡ true → every n (valid_row d) ≡ is_study s
  unfolding is_study
  rows_decide a b e f h = rw (a, le-leb n 120 b, e, f, h) (and_true (every n (valid_row d)))

  -- the test of a study says exactly what the record says
  pub is_study-T : T (is_study s) ↔ IsStudy s
  is_study-T = (told, tested)

  -- counts of 16 bits are in range, so the study decides
  pub study_decides : ValidCounts s.dataset.withdrawn → is_study s ≡ is_dataset s
  unfolding is_dataset
  study_decides c = rw (T_true (valid_counts s.dataset.withdrawn) ((valid_counts-T s.dataset.withdrawn).1 c)) (first_decides (is_study s))

  abbrev dataset_tests : List Bool
  dataset_tests = is_study s ∷ valid_counts s.dataset.withdrawn ∷ []

  -- the test of reason 21 says exactly what the record says
  pub is_dataset-T : T (is_dataset s) ↔ IsDataset s
  unfolding is_dataset
  is_dataset-T =
      let counts = valid_counts-T s.dataset.withdrawn in (
        λ t. let p = each_at dataset_tests t in record { study = told p.0; counts = counts.0 p.1.0 },
        λ D. each_of dataset_tests (tested D.study, (counts.1 D.counts, tt)),
      )

-- ---- the tests of reason 3

module _ (k : ℕ) (M : Minima) where
  abbrev pub minima_tests : List Bool
  minima_tests =
      between 1 120 M.b0
      ∷ eqb (length M.b) 8
      ∷ leb (sum_below 8 (λ j. get_or M.b j 0)) M.b0
      ∷ every 8 (λ j. cond (ltb j k) true (eqb (get_or M.b j 0) 0))
      ∷ []

  pub no_minima : (i : ℕ) → get_or minima_tests i true ≡ false → false ≡ valid_minima k M
  unfolding valid_minima
  no_minima i e = sym (each_fails minima_tests i e)

  -- all but the last have passed
  pub zeros_decide : between 1 120 M.b0 ≡ true → length M.b ≡ 8 → leb (sum_below 8 (λ j. get_or M.b j 0)) M.b0 ≡ true
      → every 8 (λ j. cond (ltb j k) true (eqb (get_or M.b j 0) 0)) ≡ valid_minima k M
  unfolding valid_minima
  zeros_decide a b c = rw (a, eq-eqb (length M.b) 8 b, c) (and_true (every 8 (λ j. cond (ltb j k) true (eqb (get_or M.b j 0) 0))))

-- ---- the triangle rule of a tide, by what the search finds

module _ (d : List ℕ) (t : ℕ) (fits : 14400 ≤ length d) (held : t < 120) {r : Option (ℕ × ℕ)}
    (e : r ≡ violation_of (violations (cell d) (length (row_in d t)) (λ i. get_or (row_in d t) i 0))) where
  pub row_tested : {b : Bool} → is_some r ≡ not b → b ≡ valid_row d t
  unfolding valid_row
  row_tested {b} q = found_tells (violations (cell d) t (cell d t)) b (ap is_some (sym (part_found d t fits held e)) ∙ q)

-- ---- the contents of a dataset

module _ (s : State) (D : IsStudy s) where
  pub study_distance : (t u : ℕ) → t < s.dataset.n → u < s.dataset.n → distance (study_of s) t u ≡ cell s.distances t u
  study_distance = distance_by s D.both_ways D.itself

  held : (t : ℕ) → t < size (study_of s) → t < s.dataset.n
  held t l = omega (arith, study_size s)

  pub valid_study : Valid (study_of s)
  unfolding study_of tide_of
  valid_study =
      record {
        k_low = D.k_low;
        k_high = D.k_high;
        few = omega (arith, study_size s, D.few);
        minima = (valid_minima-T s.dataset.k s.dataset.minima).1 D.minima;
        setting_low = λ t l. rw (study_setting s t (held t l)) (D.setting_low t (held t l));
        setting_high = λ t l. rw (study_setting s t (held t l)) (D.setting_high t (held t l));
        row_length = λ t l. ap (λ (x : Tide). length x.row) (study_tide s t (held t l)) ∙ length_tabulate t (cell s.distances t);
        distance_high = λ t u a b. omega (arith, study_distance t u (held t a) (held u b), D.distance_high t u (held t a) (held u b));
        triangle = λ t u v a b c.
            omega (
              arith,
              study_distance t v (held t a) (held v c),
              study_distance t u (held t a) (held u b),
              study_distance u v (held u b) (held v c),
              D.triangle t u v (held t a) (held u b) (held v c),
            );
      }

pub valid_contents : (s : State) → IsDataset s → ValidContents (contents_of s)
unfolding contents_of
valid_contents s D = record { study = valid_study s D.study; counts = D.counts }
