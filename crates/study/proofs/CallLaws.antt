-- An accepted Open, Minima, Enter or Withdraw leaves valid contents: the triangle rule with the rest. Assumes nothing.
use Prim.Native.Nat.{ℕ, zero, suc, ◌+◌, ◌-◌, ◌≤◌, ◌<◌}
use native.Mathlib.Nat.{not-suc-le-zero, le_of_suc-le-suc}
use native.Mathlib.Omega.{arith}
use mathlib.Core.Path.{◌≡◌, refl, sym, ap, ap₂, ◌∙◌, subst}
use mathlib.Core.Logic.{◌⊎◌, inl, inr, ⊎_elim}
use mathlib.Core.Bool.{Bool, true, false, cond, not}
use mathlib.Core.List.{List, [], ◌∷◌}
use lib.Dec.{T, leb, ltb, eqb, leb→le, nleb→lt, ltb→lt, lt→ltb, nltb→le, eqb→eq, leb-suc-suc, T_not}
use lib.Arith.{le→nltb}
use lib.ListN.{length, get_or, length-append, length-map, length-set, get_or-append, get_or-map, get_or-replicate}
use lib.Seq.{get_or-append_seam, get_or-set_same, get_or-set_other}
use Rattle.lists.specs.Lists.{between, every, sum_below, is_empty}
use Rattle.lists.proofs.Tests.{T_true, T_false, not_not, test, split, between-T, cond_yes, cond_no, every_at, eq→eqb}
use Rattle.study.specs.declared.Minima.{Minima}
use Rattle.study.specs.Study.{Tide, Study, Contents, size, no_tide, tide, distance, valid_minima, TriangleInequality, Valid, MeasuredStudy, ValidCounts}
use Rattle.study.specs.Refusals.{Numbered, Verdict, accepted, refused, value, refusal, replied, Reason, first_of}
use Rattle.study.specs.Calls.{open_reasons, opened, opening, understood, minima_reasons, with_minima, setting_minima, violations, duplicated}
use Rattle.study.specs.Calls.{enter_reasons, measured_reasons, entered, entering}
use Rattle.study.specs.Calls.{count_of, withdraw_reasons, remove_at, shortened, withdrawn, counted, withdrawing, skip}
use Rattle.study.specs.Theorems.{ValidContents}
use Rattle.study.proofs.StudyLaws.{valid_minima-T, distance_both_ways, distance_itself}
use Rattle.study.specs.Triangle.{Triangle}
use Rattle.study.proofs.TriangleLaws.{ordered_triangle, triangle_of, obeyed}

-- ---- an accepted call: none of its reasons holds

abbrev pub NoneHolds : List Reason → Type 0
NoneHolds [] = Unit {0}
NoneHolds (r ∷ rs) = T (not r.holds) × NoneHolds rs

pub none_holds : (rs : List Reason) → first_of rs ≡ accepted → NoneHolds rs
unfolding first_of
none_holds [] e = tt
none_holds (r ∷ rs) e = from (λ f. none_holds rs f) r.holds e
  where
    never : refused r.because ≡ accepted → ⊥
    never q = let z : ◌≡◌ {A = ℕ} 0 1 = cc in omega arith

    from : (first_of rs ≡ accepted → NoneHolds rs) → (b : Bool) → cond b (refused r.because) (first_of rs) ≡ accepted → T (not b) × NoneHolds rs
    from ih true f = absurd (never f)
    from ih false f = (tt, ih f)

-- ---- a reply, and the verdict in it

pub reply_refused : {A : Type 0} {y : Numbered} (v : Verdict) (x : A) → refusal y ≡ replied v x → v ≡ refused y
reply_refused accepted x e = absurd (let z : ◌≡◌ {A = ℕ} 0 1 = cc in omega arith)
reply_refused (refused r) x e = cc

pub reply_value : {A : Type 0} {z : A} (v : Verdict) (x : A) → value z ≡ replied v x → (v ≡ accepted) × (z ≡ x)
reply_value accepted x e = (refl, cc)
reply_value (refused r) x e = absurd (let z : ◌≡◌ {A = ℕ} 0 1 = cc in omega arith)

-- ---- Open

zero_minima : (k : ℕ) → T (valid_minima k (opened k).minima)
unfolding opened sum_below
zero_minima k =
    (valid_minima-T k (opened k).minima).1
    (record { low = omega arith; high = omega arith; eight = refl; sum = omega arith; above = λ j l h. get_or-replicate 8 j 0 0 h })

pub opening_valid : (k : ℕ) → first_of (open_reasons k) ≡ accepted → ValidContents (opening k)
unfolding open_reasons opening opened
opening_valid k e =
    let h = (between-T 1 8 k).0 (not_not (between 1 8 k) (none_holds (open_reasons k) e).0) in
    record {
      study = record {
        k_low = h.0;
        k_high = h.1;
        few = omega arith;
        minima = zero_minima k;
        setting_low = λ t l. absurd (not-suc-le-zero l);
        setting_high = λ t l. absurd (not-suc-le-zero l);
        row_length = λ t l. absurd (not-suc-le-zero l);
        distance_high = λ t u l m. absurd (not-suc-le-zero l);
        triangle = λ t u v l m n. absurd (not-suc-le-zero l);
      };
      counts = record { four = refl; high = λ i l. omega (arith, get_or-replicate {A = ℕ} 4 i 0 0 l) };
    }

-- ---- Minima

pub minima_valid : (M : Minima) (H : Contents) → ValidContents H → first_of (minima_reasons H.study M) ≡ accepted → ValidContents (setting_minima M H)
unfolding minima_reasons setting_minima with_minima tide distance
minima_valid M H ok e =
    let S = ok.study in
    record {
      study = record {
        k_low = S.k_low;
        k_high = S.k_high;
        few = S.few;
        minima = not_not (valid_minima H.study.k (understood M)) (none_holds (minima_reasons H.study M) e).0;
        setting_low = S.setting_low;
        setting_high = S.setting_high;
        row_length = S.row_length;
        distance_high = S.distance_high;
        triangle = S.triangle;
      };
      counts = ok.counts;
    }

-- ---- Enter: the tides before, and the new one

module _ (s : ℕ) (row : List ℕ) (S : Study) where
  abbrev n : ℕ
  n = size S

  abbrev E : Study
  E = entered s row S

  pub entered_size : size E ≡ suc n
  unfolding entered
  entered_size = length-append S.tides (record { setting = s; row = row } ∷ []) ∙ omega arith

  pub entered_old : (t : ℕ) → t < n → tide E t ≡ tide S t
  unfolding entered tide
  entered_old t l = get_or-append S.tides _ no_tide t l

  pub entered_new : tide E n ≡ record { setting = s; row = row }
  unfolding entered tide
  entered_new = get_or-append_seam S.tides _ [] no_tide

  pub entered_held : (t u : ℕ) → t < n → u < n → distance E t u ≡ distance S t u
  unfolding distance
  entered_held t u a b =
      ap₂ (λ x y. cond (ltb t u) (get_or x.row t 0) (cond (ltb u t) (get_or y.row u 0) 0)) (entered_old u b) (entered_old t a)

  pub entered_row : (t : ℕ) → t < n → distance E t n ≡ get_or row t 0
  unfolding distance
  entered_row t a = cond_yes (ltb t n) _ _ (lt→ltb t n a) ∙ ap (λ (x : Tide). get_or x.row t 0) entered_new

  pub entered_column : (t : ℕ) → t < n → distance E n t ≡ get_or row t 0
  entered_column t a = distance_both_ways E n t ∙ entered_row t a

  pub old_or_new : (t : ℕ) → t < size E → (t < n) ⊎ (t ≡ n)
  old_or_new t l = ⊎_elim (λ q. inl q) (λ q. inr (omega (arith, entered_size))) (split t n)

  -- the rule with the new tide last, and with the tides before
  pub entered_triangle : T (is_empty (violations (distance S) n (λ i. get_or row i 0))) → TriangleInequality S → TriangleInequality E
  entered_triangle h O = ordered_triangle (distance E) (distance_both_ways E) (distance_itself E) (size E) (λ i j l a b c. by i j l a b (old_or_new l c))
    where
      by : (i j l : ℕ) → i < j → j < l → (l < n) ⊎ (l ≡ n) → Triangle (distance E i j) (distance E i l) (distance E j l)
      by i j l a b (inl c) =
          let p : i < n = omega arith in
          let q : j < n = omega arith in
          rw (entered_held i j p q, entered_held i l p c, entered_held j l q c) (triangle_of (distance S) (distance_both_ways S) n O i j l p q c)
      by i j l a b (inr e) =
          let q : j < n = omega arith in
          let p : i < n = omega arith in
          subst (λ z. Triangle (distance E i j) (distance E i z) (distance E j z)) (sym e)
          (rw (entered_held i j p q, entered_row i p, entered_row j q) (obeyed (distance S) n (λ i. get_or row i 0) h i j a q))

-- ---- a tide that fits, whatever its distances are to each other

-- a study that is valid but for the triangle inequality
pub valid_measured : {S : Study} → Valid S → MeasuredStudy S
valid_measured ok =
    record {
      k_low = ok.k_low;
      k_high = ok.k_high;
      few = ok.few;
      minima = ok.minima;
      setting_low = ok.setting_low;
      setting_high = ok.setting_high;
      row_length = ok.row_length;
      distance_high = ok.distance_high;
    }

-- and the other way round, with the triangle inequality
pub measured_valid : {S : Study} → MeasuredStudy S → TriangleInequality S → Valid S
measured_valid ok R =
    record {
      k_low = ok.k_low;
      k_high = ok.k_high;
      few = ok.few;
      minima = ok.minima;
      setting_low = ok.setting_low;
      setting_high = ok.setting_high;
      row_length = ok.row_length;
      distance_high = ok.distance_high;
      triangle = R;
    }

-- what a measured tide tells that is accepted
pub record Measures (S : Study) (s : ℕ) (row : List ℕ) : Type 0 where
  pub room : size S < 120
  pub length_is : length row ≡ size S
  pub setting_low : 1 ≤ s
  pub setting_high : s ≤ S.k
  pub distance_high : (i : ℕ) → i < size S → get_or row i 0 ≤ 1048575

-- by the tests of 22, 4, 5 and 6
pub measures_by : (S : Study) (s : ℕ) (row : List ℕ) → T (not (leb 120 (size S))) → T (not (not (eqb (length row) (size S))))
    → T (not (not (between 1 S.k s))) → T (not (not (every (length row) (λ i. leb (get_or row i 0) 1048575)))) → Measures S s row
measures_by S s row room long set near =
    let b = (between-T 1 S.k s).0 (not_not (between 1 S.k s) set) in
    let q = eqb→eq (length row) (size S) (not_not (eqb (length row) (size S)) long) in
    record {
      room = nleb→lt 120 (size S) room;
      length_is = q;
      setting_low = b.0;
      setting_high = b.1;
      distance_high = λ i l.
          leb→le (get_or row i 0) 1048575
          (every_at (length row) (λ i. leb (get_or row i 0) 1048575) (not_not (every (length row) (λ i. leb (get_or row i 0) 1048575)) near) i (omega arith));
    }

pub measures : (S : Study) (s : ℕ) (row : List ℕ) → first_of (measured_reasons S s row) ≡ accepted → Measures S s row
unfolding measured_reasons
measures S s row e =
    let h = none_holds (measured_reasons S s row) e in measures_by S s row h.0 h.1.0 h.1.1.0 h.1.1.1.0

module _ (s : ℕ) (row : List ℕ) (S : Study) where
  -- what holds of the numbers before and of the new one holds of all
  pub each_number : (Q : ℕ → Type 0) → ((t : ℕ) → t < size S → Q t) → Q (size S) → (t : ℕ) → t < size (entered s row S) → Q t
  each_number Q old new t l = ⊎_elim (old t) (λ q. subst Q (sym q) new) (old_or_new s row S t l)

  -- the same of the tides
  each_tide : (Q : ℕ → Tide → Type 0) → ((t : ℕ) → t < size S → Q t (tide S t)) → Q (size S) (record { setting = s; row = row })
      → (t : ℕ) → t < size (entered s row S) → Q t (tide (entered s row S) t)
  each_tide Q old new =
      each_number (λ t. Q t (tide (entered s row S) t)) (λ t a. subst (Q t) (sym (entered_old s row S t a)) (old t a))
      (subst (Q (size S)) (sym (entered_new s row S)) new)

  pub entered_measured : MeasuredStudy S → Measures S s row → MeasuredStudy (entered s row S)
  unfolding entered
  entered_measured ok A =
      record {
        k_low = ok.k_low;
        k_high = ok.k_high;
        few = omega (arith, entered_size s row S, A.room);
        minima = ok.minima;
        setting_low = each_tide (λ t x. 1 ≤ x.setting) ok.setting_low A.setting_low;
        setting_high = each_tide (λ t x. x.setting ≤ S.k) ok.setting_high A.setting_high;
        row_length = each_tide (λ t x. length x.row ≡ t) ok.row_length A.length_is;
        distance_high = λ t u a b. near t a u b;
      }
    where
      near : (t : ℕ) → t < size (entered s row S) → (u : ℕ) → u < size (entered s row S) → distance (entered s row S) t u ≤ 1048575
      near =
          each_number (λ t. (u : ℕ) → u < size (entered s row S) → distance (entered s row S) t u ≤ 1048575)
          (λ t a. each_number (λ u. distance (entered s row S) t u ≤ 1048575)
          (λ u b. omega (arith, entered_held s row S t u a b, ok.distance_high t u a b)) (omega (arith, entered_row s row S t a, A.distance_high t a)))
          (each_number (λ u. distance (entered s row S) (size S) u ≤ 1048575)
          (λ u b. omega (arith, entered_column s row S u b, A.distance_high u b)) (omega (arith, distance_itself (entered s row S) (size S))))

-- what an accepted Enter tells
pub record Enters (S : Study) (s : ℕ) (row : List ℕ) : Type 0 where
  pub measures : Measures S s row
  pub obeyed : T (is_empty (violations (distance S) (size S) (λ i. get_or row i 0)))
  pub new : T (not (duplicated (λ i. (tide S i).setting) (size S) s (λ i. get_or row i 0)))

pub enters : (S : Study) (s : ℕ) (row : List ℕ) → first_of (enter_reasons S s row) ≡ accepted → Enters S s row
unfolding enter_reasons
enters S s row e =
    let h = none_holds (enter_reasons S s row) e in
    record {
      measures = measures_by S s row h.0 h.1.0 h.1.1.0 h.1.1.1.0;
      obeyed = not_not (is_empty (violations (distance S) (size S) (λ i. get_or row i 0))) h.1.1.1.1.0;
      new = h.1.1.1.1.1.0;
    }

-- a duplicate or not, a tide that obeys the triangle inequality makes a valid study
pub obeying_valid : (s : ℕ) (row : List ℕ) (S : Study) → Valid S → Measures S s row
    → T (is_empty (violations (distance S) (size S) (λ i. get_or row i 0))) → Valid (entered s row S)
obeying_valid s row S ok m obeyed =
    measured_valid (entered_measured s row S (valid_measured ok) m) (entered_triangle s row S obeyed ok.triangle)

pub entering_valid : (s : ℕ) (row : List ℕ) (H : Contents) → ValidContents H → first_of (enter_reasons H.study s row) ≡ accepted
    → ValidContents (entering s row H)
unfolding entering
entering_valid s row H ok e =
    let A = enters H.study s row e in
    record { study = obeying_valid s row H.study ok.study A.measures A.obeyed; counts = ok.counts }

-- ---- Withdraw

-- t stands below i and stays, or moves up by one
pub skip_is : (i t : ℕ) → ((t < i) × (skip i t ≡ t)) ⊎ ((i ≤ t) × (skip i t ≡ suc t))
skip_is i t =
    ⊎_elim (λ s. inl (ltb→lt t i s, cond_yes (ltb t i) t (suc t) s)) (λ s. inr (nltb→le t i s, cond_no (ltb t i) t (suc t) s)) (test (ltb t i))

skip_suc : (i t : ℕ) → skip (suc i) (suc t) ≡ suc (skip i t)
skip_suc i t = ap (λ b. cond b (suc t) (suc (suc t))) (leb-suc-suc (suc t) i) ∙ push (ltb t i)
  where
    push : (b : Bool) → cond b (suc t) (suc (suc t)) ≡ suc (cond b t (suc t))
    push true = refl
    push false = refl

-- skip keeps the order, strictly and not
pub record Order (i t u : ℕ) : Type 0 where
  pub strict : t < u → skip i t < skip i u
  pub weak : t ≤ u → skip i t ≤ skip i u

pub skip_order : (i t u : ℕ) → Order i t u
skip_order i t u = by (skip_is i t) (skip_is i u)
  where
    by : ((t < i) × (skip i t ≡ t)) ⊎ ((i ≤ t) × (skip i t ≡ suc t)) → ((u < i) × (skip i u ≡ u)) ⊎ ((i ≤ u) × (skip i u ≡ suc u)) → Order i t u
    by (inl a) (inl b) = record { strict = λ l. omega (arith, a, b); weak = λ l. omega (arith, a, b) }
    by (inl a) (inr b) = record { strict = λ l. omega (arith, a, b); weak = λ l. omega (arith, a, b) }
    by (inr a) (inl b) = record { strict = λ l. omega (arith, a, b); weak = λ l. omega (arith, a, b) }
    by (inr a) (inr b) = record { strict = λ l. omega (arith, a, b); weak = λ l. omega (arith, a, b) }

skip_ltb : (i t u : ℕ) → ltb t u ≡ ltb (skip i t) (skip i u)
skip_ltb i t u =
    ⊎_elim (λ s. T_true (ltb t u) s ∙ sym (T_true (ltb (skip i t) (skip i u)) (lt→ltb (skip i t) (skip i u) ((skip_order i t u).strict (ltb→lt t u s)))))
    (λ s. T_false (ltb t u) s ∙ sym (T_false (ltb (skip i t) (skip i u)) (le→nltb (skip i t) (skip i u) ((skip_order i u t).weak (nltb→le t u s)))))
    (test (ltb t u))

getD_remove_at : {A : Type 0} (i : ℕ) (xs : List A) (t : ℕ) (d : A) → get_or (remove_at i xs) t d ≡ get_or xs (skip i t) d
getD_remove_at i [] t d = refl
getD_remove_at zero (x ∷ xs) t d = sym (ap (λ z. get_or (x ∷ xs) z d) (cond_no (ltb t 0) t (suc t) (le→nltb t 0 (omega arith))))
getD_remove_at (suc i) (x ∷ xs) zero d = sym (ap (λ z. get_or (x ∷ xs) z d) (cond_yes (ltb 0 (suc i)) 0 1 (lt→ltb 0 (suc i) (omega arith))))
getD_remove_at (suc i) (x ∷ xs) (suc t) d = getD_remove_at i xs t d ∙ sym (ap (λ z. get_or (x ∷ xs) z d) (skip_suc i t))

length_remove_at : {A : Type 0} (i : ℕ) (xs : List A) → i < length xs → suc (length (remove_at i xs)) ≡ length xs
length_remove_at i [] l = absurd (not-suc-le-zero l)
length_remove_at zero (x ∷ xs) l = refl
length_remove_at (suc i) (x ∷ xs) l = ap suc (length_remove_at i xs (le_of_suc-le-suc l))

remove_at_past : {A : Type 0} (i : ℕ) (xs : List A) → length xs ≤ i → length (remove_at i xs) ≡ length xs
remove_at_past i [] l = refl
remove_at_past zero (x ∷ xs) l = absurd (not-suc-le-zero l)
remove_at_past (suc i) (x ∷ xs) l = ap suc (remove_at_past i xs (le_of_suc-le-suc l))

module _ (i : ℕ) (S : Study) where
  withdrawn_tide : (t : ℕ) → tide (withdrawn i S) t ≡ shortened i (tide S (skip i t))
  unfolding tide withdrawn no_tide shortened
  withdrawn_tide t = get_or-map (shortened i) (remove_at i S.tides) t no_tide ∙ ap (shortened i) (getD_remove_at i S.tides t no_tide)

  pub withdrawn_setting : (t : ℕ) → (tide (withdrawn i S) t).setting ≡ (tide S (skip i t)).setting
  unfolding shortened
  withdrawn_setting t = ap (λ (x : Tide). x.setting) (withdrawn_tide t)

  withdrawn_row : (u t : ℕ) → get_or (tide (withdrawn i S) u).row t 0 ≡ get_or (tide S (skip i u)).row (skip i t) 0
  unfolding shortened
  withdrawn_row u t = ap (λ (x : Tide). get_or x.row t 0) (withdrawn_tide u) ∙ getD_remove_at i (tide S (skip i u)).row t 0

  pub withdrawn_distance : (t u : ℕ) → distance (withdrawn i S) t u ≡ distance S (skip i t) (skip i u)
  unfolding distance
  withdrawn_distance t u = rw (skip_ltb i t u, skip_ltb i u t, withdrawn_row u t, withdrawn_row t u)

  module _ (held : i < size S) where
    pub withdrawn_size : suc (size (withdrawn i S)) ≡ size S
    unfolding withdrawn
    withdrawn_size = ap suc (length-map (remove_at i S.tides) (shortened i)) ∙ length_remove_at i S.tides held

    pub skip_inside : (t : ℕ) → t < size (withdrawn i S) → skip i t < size S
    skip_inside t h = ⊎_elim (λ a. omega (arith, a, withdrawn_size)) (λ a. omega (arith, a, withdrawn_size)) (skip_is i t)

    module _ (ok : Valid S) where
      row_lengths : (u : ℕ) → u < size (withdrawn i S) → length (tide (withdrawn i S) u).row ≡ u
      unfolding shortened
      row_lengths u l =
          let k = ok.row_length (skip i u) (skip_inside u l) in
          ap (λ (x : Tide). length x.row) (withdrawn_tide u)
          ∙ ⊎_elim (λ q. remove_at_past i (tide S (skip i u)).row (omega (arith, q.0, q.1, k)) ∙ omega (arith, q.1, k))
          (λ q. omega (arith, length_remove_at i (tide S (skip i u)).row (omega (arith, q.0, q.1, k)), q.1, k)) (skip_is i u)

      pub withdrawn_valid : Valid (withdrawn i S)
      unfolding withdrawn
      withdrawn_valid =
          record {
            k_low = ok.k_low;
            k_high = ok.k_high;
            few = omega (arith, withdrawn_size, ok.few);
            minima = ok.minima;
            setting_low = λ u l. rw (withdrawn_setting u) (ok.setting_low (skip i u) (skip_inside u l));
            setting_high = λ u l. rw (withdrawn_setting u) (ok.setting_high (skip i u) (skip_inside u l));
            row_length = row_lengths;
            distance_high = λ u v a b. omega (arith, withdrawn_distance u v, ok.distance_high (skip i u) (skip i v) (skip_inside u a) (skip_inside v b));
            triangle = λ t u v a b c.
                rw (withdrawn_distance t v, withdrawn_distance t u, withdrawn_distance u v)
                (ok.triangle (skip i t) (skip i u) (skip i v) (skip_inside t a) (skip_inside u b) (skip_inside v c));
          }

-- one more of user u
pub counted_valid : (u : ℕ) (ws : List ℕ) → ValidCounts ws → count_of ws u < 65535 → ValidCounts (counted u ws)
unfolding counted
counted_valid u ws ok h = record { four = length-set ws (u - 1) (count_of ws u + 1) ∙ ok.four; high = λ i l. high i l }
  where
    high : (i : ℕ) → i < 4 → get_or (counted u ws) i 0 ≤ 65535
    high i l =
        ⊎_elim
        (λ e. let q = eqb→eq i (u - 1) e in
        subst (λ j. j < 4 → get_or (counted u ws) j 0 ≤ 65535) (sym q)
        (λ m. omega (arith, get_or-set_same ws (u - 1) (count_of ws u + 1) 0 (omega (arith, ok.four)))) l)
        (λ e. omega (arith, get_or-set_other ws (u - 1) i (count_of ws u + 1) 0 (λ q. T_not (eqb i (u - 1)) e (eq→eqb i (u - 1) q)), ok.high i l))
        (test (eqb i (u - 1)))

-- what an accepted Withdraw tells
pub record Withdraws (H : Contents) (u t : ℕ) : Type 0 where
  pub low : 1 ≤ t
  pub high : t ≤ size H.study
  pub countable : count_of H.withdrawals u < 65535

pub withdraws : (H : Contents) (u t : ℕ) → first_of (withdraw_reasons H u t) ≡ accepted → Withdraws H u t
unfolding withdraw_reasons
withdraws H u t e =
    let h = none_holds (withdraw_reasons H u t) e in
    let b = (between-T 1 (size H.study) t).0 (not_not (between 1 (size H.study) t) h.0) in
    record { low = b.0; high = b.1; countable = nleb→lt 65535 (count_of H.withdrawals u) h.1.0 }

pub withdrawing_valid : (u t : ℕ) (H : Contents) → ValidContents H → first_of (withdraw_reasons H u t) ≡ accepted → ValidContents (withdrawing u t H)
unfolding withdrawing
withdrawing_valid u t H ok e =
    let w = withdraws H u t e in
    record {
      study = withdrawn_valid (t - 1) H.study (omega (arith, w.low, w.high)) ok.study;
      counts = counted_valid u H.withdrawals ok.counts w.countable;
    }
