-- A dataset's memory is exactly the layout of its contents; the layout of valid contents is a dataset, and reading it gives them back.
-- Assumes nothing.
use Prim.Native.Nat.{ℕ, ◌+◌, ◌*◌, ◌/◌, ◌%◌, ◌≤◌, ◌<◌}
use native.Mathlib.Omega.{arith}
use mathlib.Core.Path.{◌≡◌, refl, sym, ap, ap₂, ◌∙◌, subst}
use mathlib.Core.Logic.{◌⊎◌, inl, inr, ⊎_elim}
use mathlib.Core.Bool.{Bool, true, false, cond, ◌||◌}
use mathlib.Core.List.{List}
use lib.Dec.{T, ltb, ltb→lt, lt→ltb}
use lib.Arith.{le→nltb}
use lib.ListN.{length, drop, get_or, get_or-eq_default}
use Rattle.lists.specs.Lists.{tabulate}
use Rattle.lists.proofs.Tests.{T_true, T_false, split, cond_yes, cond_no}
use Rattle.lists.proofs.Tables.{tabulate_is, length_overwrite, getD_overwrite, drop_overwrite, overwrite_same}
use Rattle.study.specs.Limits.{cell}
use Rattle.study.specs.Study.{Tide, Study, Contents, size, no_tide, tide, distance}
use Rattle.study.specs.Theorems.{ValidContents}
use Rattle.study.proofs.StudyLaws.{valid_minima-T, distance_both_ways, distance_itself}
use Rattle.validity.specs.Memory.{State, state_of, set_size, is_too_short, short, is_dataset, tide_of, study_of, contents_of, record_of}
use Rattle.validity.specs.Memory.{distances_of, settings_of, stored}
use Rattle.validity.specs.Validity.{IsStudy, Long}
use Rattle.validity.proofs.ValidityLaws.{is_dataset-T, study_size, study_setting, study_distance}

-- ---- what is not held is zero

either_zero : (a b : Bool) (x y : ℕ) → (T a → x ≡ 0) → (T b → y ≡ 0) → cond a x (cond b y 0) ≡ 0
either_zero true b x y f h = f tt
either_zero false true x y f h = h tt
either_zero false false x y f h = refl

module _ (S : Study) where
  tide_beyond : (t : ℕ) → size S ≤ t → tide S t ≡ no_tide
  unfolding tide
  tide_beyond t l = get_or-eq_default S.tides no_tide l

  pub setting_none : (t : ℕ) → size S ≤ t → (tide S t).setting ≡ 0
  unfolding no_tide
  setting_none t l = ap (λ (x : Tide). x.setting) (tide_beyond t l)

  row_none : (t u : ℕ) → size S ≤ t → get_or (tide S t).row u 0 ≡ 0
  unfolding no_tide
  row_none t u l = ap (λ (x : Tide). get_or x.row u 0) (tide_beyond t l)

  pub distance_none : (t u : ℕ) → (size S ≤ t) ⊎ (size S ≤ u) → distance S t u ≡ 0
  unfolding distance
  distance_none t u (inl l) =
      either_zero (ltb t u) (ltb u t) _ _ (λ p. row_none u t (omega (arith, ltb→lt t u p))) (λ p. row_none t u l)
  distance_none t u (inr l) =
      either_zero (ltb t u) (ltb u t) _ _ (λ p. row_none u t l) (λ p. row_none t u (omega (arith, ltb→lt u t p)))

-- ---- the places of a layout

module _ (S : Study) (l : List ℕ) where
  pub stored_distance : (i j : ℕ) → i < 120 → j < 120 → cell (distances_of S l) i j ≡ distance S i j
  unfolding distances_of
  stored_distance i j a b =
      let e : (i * 120 + j) / 120 ≡ i = omega arith in
      let f : (i * 120 + j) % 120 ≡ j = omega arith in
      getD_overwrite (λ p. distance S (p / 120) (p % 120)) l 14400 (i * 120 + j) 0 (omega arith) ∙ ap₂ (distance S) e f

  stored_setting : (i : ℕ) → i < 120 → get_or (settings_of S l) i 0 ≡ (tide S i).setting
  unfolding settings_of
  stored_setting i a = getD_overwrite (λ i. (tide S i).setting) l 120 i 0 a

-- ---- valid contents, laid out over any memory

module _ (H : Contents) (ok : ValidContents H) (s : State) where
  abbrev S : Study
  S = H.study

  in_front : (i : ℕ) → i < size S → i < 120
  in_front i l = omega (arith, ok.study.few)

  far : (i j : ℕ) → i < 120 → j < 120 → cell (distances_of S s.distances) i j ≡ distance S i j
  far = stored_distance S s.distances

  held : (i j : ℕ) → i < size S → j < size S → cell (distances_of S s.distances) i j ≡ distance S i j
  held i j a b = far i j (in_front i a) (in_front j b)

  set : (i : ℕ) → i < size S → get_or (settings_of S s.settings) i 0 ≡ (tide S i).setting
  set i a = stored_setting S s.settings i (in_front i a)

  pub stored_is : IsStudy (stored H s)
  unfolding stored record_of
  stored_is =
      record {
        few = ok.study.few;
        k_low = ok.study.k_low;
        k_high = ok.study.k_high;
        minima = (valid_minima-T S.k S.minima).0 ok.study.minima;
        setting_low = λ i l. rw (set i l) (ok.study.setting_low i l);
        setting_high = λ i l. rw (set i l) (ok.study.setting_high i l);
        distance_high = λ i j a b. omega (arith, held i j a b, ok.study.distance_high i j a b);
        both_ways = λ i j a b. held i j a b ∙ distance_both_ways S i j ∙ sym (held j i b a);
        itself = λ i a. held i i a a ∙ distance_itself S i;
        triangle = λ t u v a b c. omega (arith, held t v a c, held t u a b, held u v b c, ok.study.triangle t u v a b c);
        setting_beyond = λ i l m. stored_setting S s.settings i m ∙ setting_none S i l;
        beyond = λ i j a b o. far i j a b ∙ distance_none S i j o;
      }

  pub stored_dataset : T (is_dataset (stored H s))
  unfolding stored record_of
  stored_dataset = (is_dataset-T (stored H s)).1 (record { study = stored_is; counts = ok.counts })

  stored_tide : (t : ℕ) → t < size S → tide_of (stored H s) t ≡ tide S t
  unfolding tide_of stored distance
  stored_tide t l = λ i. record { setting = set t l i; row = rows i }
    where
      one : (u : ℕ) → u < t → cell (distances_of S s.distances) t u ≡ get_or (tide S t).row u 0
      one u k =
          held t u l (omega arith) ∙ cond_no (ltb t u) _ _ (le→nltb t u (omega arith)) ∙ cond_yes (ltb u t) _ _ (lt→ltb u t k)

      rows : tabulate t (cell (distances_of S s.distances) t) ≡ (tide S t).row
      rows = tabulate_is t (cell (distances_of S s.distances) t) 0 (tide S t).row (ok.study.row_length t l) one

  -- reading back what was stored
  pub stored_contents : contents_of (stored H s) ≡ H
  unfolding contents_of study_of stored record_of tide
  stored_contents = λ i. record { study = record { k = S.k; minima = S.minima; tides = all i }; withdrawals = H.withdrawals }
    where
      all : tabulate (size S) (tide_of (stored H s)) ≡ S.tides
      all = tabulate_is (size S) (tide_of (stored H s)) no_tide S.tides refl stored_tide

-- ---- the length of the memory

or_left : (a b : Bool) → T a → T (a || b)
or_left true b t = t
or_left false b t = elim t [ ]

or_right : (a b : Bool) → T b → T (a || b)
or_right true b t = tt
or_right false b t = t

-- memory that is not too short
pub memory_fits : (d g : List ℕ) {r : Bool} → r ≡ is_too_short d g → r ≡ false → (14400 ≤ length d) × (120 ≤ length g)
memory_fits d g e f = by (split (length d) 14400) (split (length g) 120)
  where
    never : {b : Bool} → T b → b ≡ false → ⊥
    never {b} t q = subst T q t

    by : (length d < 14400) ⊎ (14400 ≤ length d) → (length g < 120) ⊎ (120 ≤ length g) → (14400 ≤ length d) × (120 ≤ length g)
    by (inr a) (inr b) = (a, b)
    by (inl a) o = absurd (never (or_left (ltb (length d) 14400) (ltb (length g) 120) (lt→ltb (length d) 14400 a)) (sym e ∙ f))
    by (inr a) (inl b) = absurd (never (or_right (ltb (length d) 14400) (ltb (length g) 120) (lt→ltb (length g) 120 b)) (sym e ∙ f))

-- where the distances fit, the settings decide
pub settings_decide : (d g : List ℕ) → 14400 ≤ length d
    → (ltb (length g) 120 ≡ is_too_short d g) × (ltb (length g) 120 ≡ false → (14400 ≤ length d) × (120 ≤ length g))
settings_decide d g l = let e = same in (e, memory_fits d g e)
  where
    same : ltb (length g) 120 ≡ is_too_short d g
    same = rw (T_false (ltb (length d) 14400) (le→nltb _ _ l))

module _ (s : State) where
  pub short_yes : (length s.distances < 14400) ⊎ (length s.settings < 120) → short s ≡ true
  unfolding short
  short_yes (inl a) = rw (T_true (ltb (length s.distances) 14400) (lt→ltb _ _ a))
  short_yes (inr a) = either (ltb (length s.distances) 14400)
    where
      either : (b : Bool) → b || ltb (length s.settings) 120 ≡ true
      either true = refl
      either false = T_true (ltb (length s.settings) 120) (lt→ltb _ _ a)

  pub short_no : 14400 ≤ length s.distances → 120 ≤ length s.settings → short s ≡ false
  unfolding short
  short_no a b = rw (T_false (ltb (length s.distances) 14400) (le→nltb _ _ a), T_false (ltb (length s.settings) 120) (le→nltb _ _ b))

  pub long : short s ≡ false → Long s
  unfolding short
  long e = let fits = memory_fits s.distances s.settings refl e in record { distances = fits.0; settings = fits.1 }

-- what the test of the memory says
pub short_test : (s : State) {r b : Bool} → r ≡ is_too_short s.distances s.settings → r ≡ b → short s ≡ b
unfolding short
short_test s e f = sym e ∙ f

module _ (H : Contents) (s : State) where
  -- the excess stays
  pub stored_excess_distances : drop 14400 (stored H s).distances ≡ drop 14400 s.distances
  unfolding stored distances_of
  stored_excess_distances = drop_overwrite (λ p. distance H.study (p / 120) (p % 120)) s.distances 14400

  pub stored_excess_settings : drop 120 (stored H s).settings ≡ drop 120 s.settings
  unfolding stored settings_of
  stored_excess_settings = drop_overwrite (λ i. (tide H.study i).setting) s.settings 120

  pub stored_short : short s ≡ false → short (stored H s) ≡ short s
  unfolding stored distances_of settings_of short
  stored_short e =
      rw (
        length_overwrite (λ p. distance H.study (p / 120) (p % 120)) s.distances 14400 (long s e).distances,
        length_overwrite (λ i. (tide H.study i).setting) s.settings 120 (long s e).settings,
      )

-- ---- a dataset's own contents

module _ (s : State) (D : IsStudy s) where
  -- the study's distances are those in memory, also beyond the tides held
  pub memory_distance : (i j : ℕ) → i < 120 → j < 120 → distance (study_of s) i j ≡ cell s.distances i j
  memory_distance i j a b = by (split i s.dataset.n) (split j s.dataset.n)
    where
      by : (i < s.dataset.n) ⊎ (s.dataset.n ≤ i) → (j < s.dataset.n) ⊎ (s.dataset.n ≤ j) → distance (study_of s) i j ≡ cell s.distances i j
      by (inl p) (inl q) = study_distance s D i j p q
      by (inl p) (inr q) = distance_none (study_of s) i j (inr (omega (arith, study_size s))) ∙ sym (D.beyond i j a b (inr q))
      by (inr p) q = distance_none (study_of s) i j (inl (omega (arith, study_size s))) ∙ sym (D.beyond i j a b (inl p))

  pub memory_setting : (i : ℕ) → i < 120 → (tide (study_of s) i).setting ≡ get_or s.settings i 0
  memory_setting i a =
      ⊎_elim (λ p. study_setting s i p) (λ p. setting_none (study_of s) i (omega (arith, study_size s)) ∙ sym (D.setting_beyond i p a))
      (split i s.dataset.n)

  module _ (e : short s ≡ false) where
    own_distances : distances_of (study_of s) s.distances ≡ s.distances
    unfolding distances_of
    own_distances =
        overwrite_same (λ p. distance (study_of s) (p / 120) (p % 120)) s.distances 14400 0 (long s e).distances
        (λ p l. memory_distance (p / 120) (p % 120) (omega arith) (omega arith) ∙ ap (λ (q : ℕ). get_or s.distances q 0) (omega arith))

    own_settings : settings_of (study_of s) s.settings ≡ s.settings
    unfolding settings_of
    own_settings = overwrite_same (λ i. (tide (study_of s) i).setting) s.settings 120 0 (long s e).settings memory_setting

    -- so a dataset's memory is that of its contents, and nothing else is in it
    pub own_layout : stored (contents_of s) s ≡ s
    unfolding stored record_of contents_of study_of
    own_layout = λ i. state_of (set_size (study_size s i) s.dataset) (own_distances i) (own_settings i)
