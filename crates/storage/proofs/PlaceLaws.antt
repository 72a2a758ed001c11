-- What Open, Enter and Withdraw write into memory, place by place, and that it lays out the study they make. Assumes nothing.
use Prim.Native.Nat.{ℕ, zero, suc, ◌+◌, ◌-◌, ◌*◌, ◌/◌, ◌%◌, ◌≤◌, ◌<◌}
use native.Mathlib.Omega.{arith}
use native.Mathlib.Numerals.{add-one}
use mathlib.Core.Path.{◌≡◌, refl, sym, ap, ap₂, ◌∙◌, subst}
use mathlib.Core.Logic.{◌⊎◌, inl, inr, ⊎_elim}
use mathlib.Core.List.{List, [], ◌∷◌, ◌++◌}
use lib.ListN.{length, get_or, set, take, drop, length-set, length-take}
use Rattle.std.proofs.Common.{get_or-take}
use Rattle.std.proofs.lemmas.List.{set-append_right, take_more, drop-set, drop-set-add, append_assoc}
use lib.Seq.{ext_get_or, get_or-set_same, get_or-set_other}
use borrow.Author.Tests.{le-leb, lt-leb}
use Rattle.lists.specs.Lists.{overwrite, at}
use Rattle.lists.proofs.Tests.{split}
use Rattle.lists.proofs.Tables.{tabulate_is, length_overwrite, getD_overwrite, get_d_past, overwrite_same, overwrite_ext, overwrite_read}
use Rattle.study.specs.Limits.{cell}
use Rattle.study.specs.Study.{Tide, Study, size, tide, distance}
use Rattle.study.proofs.StudyLaws.{distance_both_ways, distance_itself}
use Rattle.study.specs.Calls.{opened, entered, withdrawn, skip}
use Rattle.study.proofs.CallLaws.{entered_size, entered_old, entered_new, entered_held, entered_row, skip_is, withdrawn_setting, withdrawn_distance}
use Rattle.validity.specs.Memory.{State, study_of, distances_of, settings_of}
use Rattle.validity.specs.Validity.{IsStudy}
use Rattle.validity.proofs.ValidityLaws.{study_size}
use Rattle.validity.proofs.LayoutLaws.{setting_none, distance_none, stored_distance, memory_distance, memory_setting}
use Rattle.storage.specs.Places.{with_row, moved_distance, moved_setting}

-- ---- Open

pub cleared_distances : (k : ℕ) (l : List ℕ) → overwrite 14400 (λ _. 0) l ≡ distances_of (opened k) l
unfolding distances_of opened
cleared_distances k l =
    overwrite_ext (λ _. 0) l 14400 (λ p. distance (opened k) (p / 120) (p % 120))
    (λ p h. sym (distance_none (opened k) (p / 120) (p % 120) (inl (omega arith))))

pub cleared_settings : (k : ℕ) (l : List ℕ) → overwrite 120 (λ _. 0) l ≡ settings_of (opened k) l
unfolding settings_of opened
cleared_settings k l = overwrite_ext (λ _. 0) l 120 (λ i. (tide (opened k) i).setting) (λ i h. sym (setting_none (opened k) i (omega arith)))

-- ---- a list's front, copied

-- the places before i are m's, and place i becomes m's too
pub front_more : {A : Type 0} (m l : List A) {now : List A} {i : ℕ} {x : A} → now ≡ take i m ++ drop i l → x ≡ get_or m i x → i < length m
    → i < length l → set now i x ≡ take (i + 1) m ++ drop (i + 1) l
front_more m l {now} {i} {x} e is inside room =
    let before : length (take i m) ≡ i = simp length-take (omega arith) in
    let first : i - i ≡ 0 = omega arith in
    let here : i + 0 ≡ i = omega arith in
    let behind : set (drop i l) (i - i) x ≡ x ∷ drop (i + 1) l =
    ap (λ k. set (drop i l) k x) first ∙ sym (drop-set-add i l 0 x) ∙ ap (λ k. drop i (set l k x)) here ∙ drop-set l i x room in
    ap (λ z. set z i x) e ∙ set-append_right (take i m) (drop i l) i i x before (omega arith) ∙ ap (λ z. take i m ++ z) behind
    ∙ sym (append_assoc (take i m) (x ∷ []) (drop (i + 1) l))
    ∙ ap (λ z. z ++ drop (i + 1) l) (ap (λ y. take i m ++ (y ∷ [])) is ∙ sym (take_more m i x inside))

pub front_copied : (n : ℕ) (m l : List ℕ) → n ≤ length m → take n m ++ drop n l ≡ overwrite n (at m) l
unfolding overwrite
front_copied n m l h =
    ap (λ (x : List ℕ). x ++ drop n l)
    (sym (tabulate_is n (at m) 0 (take n m) (simp length-take (omega arith)) (λ i l. sym (get_or-take n m i 0 l))))

-- ---- Enter

module _ (row : List ℕ) where
  pub row_none : (d : List ℕ) → d ≡ with_row row 0 d
  unfolding with_row
  row_none d = refl

  pub row_more : (l : List ℕ) (m : ℕ) {d : List ℕ} → d ≡ with_row row m l
      → set (set d (length row * 120 + m) (get_or row m 0)) (m * 120 + length row) (get_or row m 0) ≡ with_row row (m + 1) l
  unfolding with_row
  row_more l m e = rw (add-one m, e)

  pub row_done : (l d : List ℕ) (i n : ℕ) → i ≤ n → n ≤ i → d ≡ with_row row i l → d ≡ with_row row n l
  row_done l d i n a b h = let e : i ≡ n = omega arith in subst (λ (k : ℕ). d ≡ with_row row k l) e h

  row_length : (d : List ℕ) (m : ℕ) → length (with_row row m d) ≡ length d
  unfolding with_row
  row_length d zero = refl
  row_length d (suc m) = simp length-set (row_length d m)

  module _ (d : List ℕ) (few : length row < 120) (fits : 14400 ≤ length d) where
    -- a place of the new tide's row or column
    on_row : (m i : ℕ) → m ≤ length row → i < m → get_or (with_row row m d) (length row * 120 + i) 0 ≡ get_or row i 0
    unfolding with_row
    on_row zero i h l = absurd (omega arith)
    on_row (suc m) i h l =
        let x = get_or row m 0 in
        get_or-set_other (set (with_row row m d) (length row * 120 + m) x) (m * 120 + length row) (length row * 120 + i) x 0 (λ e. omega arith)
        ∙ ⊎_elim (λ k. get_or-set_other (with_row row m d) (length row * 120 + m) (length row * 120 + i) x 0 (λ e. omega arith) ∙ on_row m i (omega arith) k)
        (λ k. let e : i ≡ m = omega arith in
        subst (λ z. get_or (set (with_row row m d) (length row * 120 + m) x) (length row * 120 + z) 0 ≡ get_or row z 0) (sym e)
        (get_or-set_same (with_row row m d) (length row * 120 + m) x 0 (omega (arith, row_length d m))))
        (split i m)

    on_column : (m i : ℕ) → m ≤ length row → i < m → get_or (with_row row m d) (i * 120 + length row) 0 ≡ get_or row i 0
    unfolding with_row
    on_column zero i h l = absurd (omega arith)
    on_column (suc m) i h l =
        let x = get_or row m 0 in
        ⊎_elim
        (λ k. get_or-set_other (set (with_row row m d) (length row * 120 + m) x) (m * 120 + length row) (i * 120 + length row) x 0 (λ e. omega arith)
        ∙ get_or-set_other (with_row row m d) (length row * 120 + m) (i * 120 + length row) x 0 (λ e. omega arith) ∙ on_column m i (omega arith) k)
        (λ k. let e : i ≡ m = omega arith in
        subst (λ z. get_or (with_row row (suc m) d) (z * 120 + length row) 0 ≡ get_or row z 0) (sym e)
        (get_or-set_same (set (with_row row m d) (length row * 120 + m) x) (m * 120 + length row) x 0
        (omega (arith, row_length d m, length-set (with_row row m d) (length row * 120 + m) x))))
        (split i m)

    -- any other place
    off_row : (m p : ℕ) → m ≤ length row → ((i : ℕ) → i < m → p ≡ length row * 120 + i → ⊥) → ((i : ℕ) → i < m → p ≡ i * 120 + length row → ⊥)
        → get_or (with_row row m d) p 0 ≡ get_or d p 0
    unfolding with_row
    off_row zero p h f g = refl
    off_row (suc m) p h f g =
        get_or-set_other (set (with_row row m d) (length row * 120 + m) (get_or row m 0)) (m * 120 + length row) p (get_or row m 0) 0 (g m (omega arith))
        ∙ get_or-set_other (with_row row m d) (length row * 120 + m) p (get_or row m 0) 0 (f m (omega arith))
        ∙ off_row m p (omega arith) (λ i l. f i (omega arith)) (λ i l. g i (omega arith))

-- over the layout of any study
module _ (S : Study) (setting : ℕ) (row : List ℕ) (long : length row ≡ size S) (few : size S < 120) where
  abbrev E : Study
  E = entered setting row S

  size_more : size E ≡ suc (size S)
  size_more = entered_size setting row S

  -- the new tide's number is the length of its row
  new_row : (t : ℕ) → t < size S → distance E t (length row) ≡ get_or row t 0
  new_row t l = subst (λ z. distance E t z ≡ get_or row t 0) (sym long) (entered_row setting row S t l)

  module _ (l : List ℕ) (fits : 14400 ≤ length l) where
    abbrev d : List ℕ
    d = distances_of S l

    same_length : length d ≡ length l
    unfolding distances_of
    same_length = length_overwrite (λ p. distance S (p / 120) (p % 120)) l 14400 fits

    room : 14400 ≤ length d
    room = omega (arith, same_length)

    place : (a b : ℕ) → a < 120 → b < 120 → get_or (with_row row (length row) d) (a * 120 + b) 0 ≡ distance E a b
    place a b p q = by (side a) (side b)
      where
        side : (z : ℕ) → (z < size S) ⊎ ((z ≡ length row) ⊎ (size S < z))
        side z = ⊎_elim (λ h. inl h) (λ h. inr (⊎_elim (λ k. inr k) (λ k. inl (omega arith)) (split (size S) z))) (split z (size S))

        -- a place that stays
        off : (a ≡ length row → length row ≤ b) → (b ≡ length row → length row ≤ a) → distance S a b ≡ distance E a b
            → get_or (with_row row (length row) d) (a * 120 + b) 0 ≡ distance E a b
        off f g e =
            off_row row d (omega arith) room (length row) (a * 120 + b) (omega arith)
            (λ i l h. let k : a ≡ length row = omega arith in let r = f k in omega arith)
            (λ i l h. let k : b ≡ length row = omega arith in let r = g k in omega arith)
            ∙ stored_distance S l a b p q ∙ e

        zero_there : (size S ≤ a) ⊎ (size S ≤ b) → distance E a b ≡ 0 → distance S a b ≡ distance E a b
        zero_there o e = distance_none S a b o ∙ sym e

        by : (a < size S) ⊎ ((a ≡ length row) ⊎ (size S < a)) → (b < size S) ⊎ ((b ≡ length row) ⊎ (size S < b))
            → get_or (with_row row (length row) d) (a * 120 + b) 0 ≡ distance E a b
        by (inl u) (inl v) = off (λ e. omega arith) (λ e. omega arith) (sym (entered_held setting row S a b u v))
        by (inl u) (inr (inl e)) =
            subst (λ z. get_or (with_row row (length row) d) (a * 120 + z) 0 ≡ distance E a z) (sym e)
            (on_column row d (omega arith) room (length row) a (omega arith) (omega arith) ∙ sym (new_row a u))
        by (inl u) (inr (inr v)) =
            off (λ e. omega arith) (λ e. omega arith) (zero_there (inr (omega arith)) (distance_none E a b (inr (omega (arith, size_more)))))
        by (inr (inl e)) (inl v) =
            subst (λ z. get_or (with_row row (length row) d) (z * 120 + b) 0 ≡ distance E z b) (sym e)
            (on_row row d (omega arith) room (length row) b (omega arith) (omega arith) ∙ sym (distance_both_ways E (length row) b ∙ new_row b v))
        by (inr (inl e)) (inr (inl f)) =
            off (λ h. omega arith) (λ h. omega arith)
            (zero_there (inl (omega arith)) (subst (λ z. distance E a z ≡ 0) (e ∙ sym f) (distance_itself E a)))
        by (inr (inl e)) (inr (inr v)) =
            off (λ h. omega arith) (λ h. omega arith) (zero_there (inl (omega arith)) (distance_none E a b (inr (omega (arith, size_more)))))
        by (inr (inr u)) v =
            off (λ e. omega arith) (λ e. omega arith) (zero_there (inl (omega arith)) (distance_none E a b (inl (omega (arith, size_more)))))

    pub more_distances : with_row row (length row) (distances_of S l) ≡ distances_of (entered setting row S) l
    unfolding distances_of
    more_distances =
        ext_get_or 0 (with_row row (length row) d) (overwrite 14400 far l)
        (row_length row d (length row) ∙ same_length ∙ sym (length_overwrite far l 14400 fits))
        (λ p h. ⊎_elim
        (λ k. ap (λ (q : ℕ). get_or (with_row row (length row) d) q 0) (omega arith) ∙ place (p / 120) (p % 120) (omega arith) (omega arith)
        ∙ sym (getD_overwrite far l 14400 p 0 k))
        (λ k. off_row row d (omega arith) room (length row) p (omega arith) (λ i u e. omega arith) (λ i u e. omega arith)
        ∙ get_d_past (λ p. distance S (p / 120) (p % 120)) l 14400 p 0 k ∙ sym (get_d_past far l 14400 p 0 k))
        (split p 14400))
      where
        far : ℕ → ℕ
        far p = distance E (p / 120) (p % 120)

  pub more_settings : (l : List ℕ) → 120 ≤ length l → set (settings_of S l) (size S) setting ≡ settings_of (entered setting row S) l
  unfolding settings_of
  more_settings l fits =
      ext_get_or 0 (set g (size S) setting) (overwrite 120 kind l)
      (length-set g (size S) setting ∙ same_length ∙ sym (length_overwrite kind l 120 fits))
      (λ i _. ⊎_elim (λ h. inside i h ∙ sym (getD_overwrite kind l 120 i 0 h))
      (λ h. get_or-set_other g (size S) i setting 0 (λ e. omega arith) ∙ get_d_past old l 120 i 0 h ∙ sym (get_d_past kind l 120 i 0 h))
      (split i 120))
    where
      old : ℕ → ℕ
      old i = (tide S i).setting

      kind : ℕ → ℕ
      kind i = (tide E i).setting

      g : List ℕ
      g = overwrite 120 old l

      same_length : length g ≡ length l
      same_length = length_overwrite old l 120 fits

      other : (i : ℕ) → i < 120 → (i ≡ size S → ⊥) → old i ≡ kind i → get_or (set g (size S) setting) i 0 ≡ kind i
      other i h f e = get_or-set_other g (size S) i setting 0 f ∙ getD_overwrite old l 120 i 0 h ∙ e

      inside : (i : ℕ) → i < 120 → get_or (set g (size S) setting) i 0 ≡ kind i
      inside i h =
          ⊎_elim
          (λ u. other i h (λ e. omega arith) (sym (ap (λ (x : Tide). x.setting) (entered_old setting row S i u))))
          (λ u. ⊎_elim
          (λ v. other i h (λ e. omega arith) (setting_none S i u ∙ sym (setting_none E i (omega (arith, size_more)))))
          (λ v. let e : i ≡ size S = omega arith in
          subst (λ z. get_or (set g (size S) setting) z 0 ≡ kind z) (sym e)
          (get_or-set_same g (size S) setting 0 (omega (arith, same_length)) ∙ sym (ap (λ (x : Tide). x.setting) (entered_new setting row S))))
          (split (size S) i))
          (split i (size S))

-- ---- a dataset's memory, copied

module _ (s : State) (D : IsStudy s) where
  pub copied_distances : (l : List ℕ) → overwrite 14400 (at s.distances) l ≡ distances_of (study_of s) l
  unfolding distances_of
  copied_distances l =
      overwrite_ext (at s.distances) l 14400 (λ p. distance (study_of s) (p / 120) (p % 120))
      (λ p h. ap (at s.distances) (omega arith) ∙ sym (memory_distance s D (p / 120) (p % 120) (omega arith) (omega arith)))

  pub copied_settings : (l : List ℕ) → overwrite 120 (at s.settings) l ≡ settings_of (study_of s) l
  unfolding settings_of
  copied_settings l =
      overwrite_ext (at s.settings) l 120 (λ i. (tide (study_of s) i).setting) (λ i h. sym (memory_setting s D i h))

  -- a copy over itself changes nothing
  own_distances : 14400 ≤ length s.distances → s.distances ≡ distances_of (study_of s) s.distances
  own_distances fits = sym (overwrite_same (at s.distances) s.distances 14400 0 fits (λ i h. refl)) ∙ copied_distances s.distances

  own_settings : 120 ≤ length s.settings → s.settings ≡ settings_of (study_of s) s.settings
  own_settings fits = sym (overwrite_same (at s.settings) s.settings 120 0 fits (λ i h. refl)) ∙ copied_settings s.settings

  -- so Enter lays out the study with one tide more over a dataset's own memory
  module _ (setting : ℕ) (row : List ℕ) (long : length row ≡ s.dataset.n) (few : s.dataset.n < 120) where
    pub entered_distances : 14400 ≤ length s.distances
        → with_row row (length row) s.distances ≡ distances_of (entered setting row (study_of s)) s.distances
    entered_distances fits =
        ap (with_row row (length row)) (own_distances fits)
        ∙ more_distances (study_of s) setting row (long ∙ sym (study_size s)) (omega (arith, study_size s)) s.distances fits

    pub entered_settings : 120 ≤ length s.settings
        → set s.settings s.dataset.n setting ≡ settings_of (entered setting row (study_of s)) s.settings
    entered_settings fits =
        ap₂ (λ l n. set l n setting) (own_settings fits) (sym (study_size s))
        ∙ more_settings (study_of s) setting row (long ∙ sym (study_size s)) (omega (arith, study_size s)) s.settings fits

-- ---- Withdraw

-- a tide moves from its own place or the next
skip_low : (m t : ℕ) → t ≤ skip m t
skip_low m t = ⊎_elim (λ q. omega (arith, q.1)) (λ q. omega (arith, q.1)) (skip_is m t)

module _ (d : List ℕ) (m p : ℕ) {i j : ℕ} (e : i ≡ skip m (p / 120)) (f : j ≡ skip m (p % 120)) where
  pub moved_no_row : 120 ≤ i → 0 ≡ moved_distance d m p
  unfolding moved_distance
  moved_no_row h = rw (← e, le-leb 120 i h)

  pub moved_no_column : i < 120 → 120 ≤ j → 0 ≡ moved_distance d m p
  unfolding moved_distance
  moved_no_column h k = rw (← e, ← f, lt-leb 120 i h, le-leb 120 j k)

  pub moved_place : i < 120 → j < 120 → cell d i j ≡ moved_distance d m p
  unfolding moved_distance
  moved_place h k = rw (← e, ← f, lt-leb 120 i h, lt-leb 120 j k)

module _ (g : List ℕ) (m t : ℕ) {i : ℕ} (e : i ≡ skip m t) where
  pub moved_none : 120 ≤ i → 0 ≡ moved_setting g m t
  unfolding moved_setting
  moved_none h = rw (← e, le-leb 120 i h)

  pub moved_one : i < 120 → get_or g i 0 ≡ moved_setting g m t
  unfolding moved_setting
  moved_one h = rw (← e, lt-leb 120 i h)

-- a loop that moves tides reads places that it has not written yet
pub moved_distance_lem : (l : List ℕ) (m p : ℕ) {d : List ℕ} → p < 14400 → d ≡ overwrite p (moved_distance l m) l → moved_distance d m p ≡ moved_distance l m p
moved_distance_lem l m p {d} h e = by (split (skip m (p / 120)) 120) (split (skip m (p % 120)) 120)
  where
    by : (skip m (p / 120) < 120) ⊎ (120 ≤ skip m (p / 120)) → (skip m (p % 120) < 120) ⊎ (120 ≤ skip m (p % 120)) → moved_distance d m p ≡ moved_distance l m p
    by (inl u) (inl v) =
        sym (moved_place d m p refl refl u v)
        ∙ overwrite_read (moved_distance l m) l 0 e _ (omega (arith, skip_low m (p / 120), skip_low m (p % 120)))
        ∙ moved_place l m p refl refl u v
    by (inl u) (inr v) = sym (moved_no_column d m p refl refl u v) ∙ moved_no_column l m p refl refl u v
    by (inr u) v = sym (moved_no_row d m p refl refl u) ∙ moved_no_row l m p refl refl u

pub moved_setting_lem : (l : List ℕ) (m t : ℕ) {g : List ℕ} → t < 120 → g ≡ overwrite t (moved_setting l m) l → moved_setting g m t ≡ moved_setting l m t
moved_setting_lem l m t {g} h e =
    ⊎_elim
    (λ u. sym (moved_one g m t refl u) ∙ overwrite_read (moved_setting l m) l 0 e (skip m t) (skip_low m t) ∙ moved_one l m t refl u)
    (λ u. sym (moved_none g m t refl u) ∙ moved_none l m t refl u)
    (split (skip m t) 120)

module _ (s : State) (D : IsStudy s) (m : ℕ) where
  past : (t : ℕ) → 120 ≤ t → size (study_of s) ≤ t
  past t h = omega (arith, study_size s, D.few)

  pub withdrawn_distances : overwrite 14400 (moved_distance s.distances m) s.distances ≡ distances_of (withdrawn m (study_of s)) s.distances
  unfolding distances_of
  withdrawn_distances =
      overwrite_ext (moved_distance s.distances m) s.distances 14400 (λ p. distance (withdrawn m (study_of s)) (p / 120) (p % 120))
      (λ p h. by p (split (skip m (p / 120)) 120) (split (skip m (p % 120)) 120) ∙ sym (withdrawn_distance m (study_of s) (p / 120) (p % 120)))
    where
      by : (p : ℕ) → (skip m (p / 120) < 120) ⊎ (120 ≤ skip m (p / 120)) → (skip m (p % 120) < 120) ⊎ (120 ≤ skip m (p % 120))
          → moved_distance s.distances m p ≡ distance (study_of s) (skip m (p / 120)) (skip m (p % 120))
      by p (inl u) (inl v) = sym (moved_place s.distances m p refl refl u v) ∙ sym (memory_distance s D (skip m (p / 120)) (skip m (p % 120)) u v)
      by p (inl u) (inr v) = sym (moved_no_column s.distances m p refl refl u v) ∙ sym (distance_none (study_of s) _ _ (inr (past _ v)))
      by p (inr u) v = sym (moved_no_row s.distances m p refl refl u) ∙ sym (distance_none (study_of s) _ _ (inl (past _ u)))

  pub withdrawn_settings : overwrite 120 (moved_setting s.settings m) s.settings ≡ settings_of (withdrawn m (study_of s)) s.settings
  unfolding settings_of
  withdrawn_settings =
      overwrite_ext (moved_setting s.settings m) s.settings 120 (λ t. (tide (withdrawn m (study_of s)) t).setting)
      (λ t h. ⊎_elim (λ u. sym (moved_one s.settings m t refl u) ∙ sym (memory_setting s D (skip m t) u))
      (λ u. sym (moved_none s.settings m t refl u) ∙ sym (setting_none (study_of s) (skip m t) (past (skip m t) u)))
      (split (skip m t) 120)
      ∙ sym (withdrawn_setting m (study_of s) t))
