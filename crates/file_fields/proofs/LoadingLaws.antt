-- Read's tides, one by one: the first t tides of a file, laid out in memory, and what the next tide makes of it. Assumes nothing.
use Prim.Native.Nat.{ℕ, ◌+◌, ◌*◌, ◌/◌, ◌%◌, ◌≤◌, ◌<◌}
use native.Mathlib.Omega.{arith}
use native.Mathlib.Numerals.{add-one}
use mathlib.Core.Path.{◌≡◌, refl, sym, ap, ap₂, ◌∙◌, subst}
use mathlib.Core.Logic.{inl}
use mathlib.Core.Bool.{cond, not}
use mathlib.Core.List.{List, [], ◌∷◌, ◌++◌}
use lib.Dec.{T, ltb}
use lib.ListN.{length, get_or, set, length-set}
use Rattle.std.specs.Prelude.{Result, Ok, Err}
use Rattle.lists.specs.Lists.{tabulate, overwrite, is_empty}
use Rattle.lists.proofs.Tables.{length_tabulate, get_d_tabulate, tabulate_suc, length_overwrite, getD_overwrite, drop_overwrite, overwrite_same, overwrite_ext}
use Rattle.study.specs.Limits.{cell}
use Rattle.study.specs.declared.Refusal.{Refusal}
use Rattle.study.specs.Study.{Tide, Study, Contents, size, no_tide, tide, distance}
use Rattle.study.specs.Refusals.{number, accepted, refused, numbered, verdict_of, first_of}
use Rattle.study.specs.Calls.{Pair, violations, first_violation, entered}
use Rattle.file_format.specs.Bits.{bits_at}
use Rattle.file_format.specs.File.{bit_length, counts_in, tide_at, minima_at, decoded, head_reasons, read_reasons}
use Rattle.file_format.proofs.DecodedLaws.{decoded_size, decoded_tide, decoded_setting}
use Rattle.file_format.specs.Head.{Head, Clear}
use Rattle.file_format.proofs.ReadLaws.{violations_at, clear_none, accepted-T, refused_five, refused_seven, clear_more}
use Rattle.validity.specs.Memory.{distances_of, settings_of}
use Rattle.validity.proofs.LayoutLaws.{setting_none, distance_none}
use Rattle.triangle.proofs.PairLaws.{violations_same}
use Rattle.storage.specs.Places.{with_row}
use Rattle.storage.proofs.PlaceLaws.{more_distances, more_settings}
use Rattle.file_fields.specs.Loading.{part, Loaded, Reading, violation_verdict}
use Rattle.file_fields.proofs.AdvanceLaws.{never_err, same_err}

-- ---- answers

pub reached : {s : List ℕ} {t : ℕ} {matrix vector : List ℕ} → Loaded s t matrix vector → Reading s t (Ok tt) matrix vector
reached L = record { goes = λ _. L; stops = λ why e. absurd (never_err e) }

pub stopped : {s : List ℕ} {t : ℕ} {matrix vector : List ℕ} {why : Refusal} → first_of (read_reasons s) ≡ refused (numbered why)
    → Reading s t (Err why) matrix vector
stopped f = record { goes = λ q. absurd (never_err (sym q)); stops = λ x q. f ∙ ap refused (ap numbered (same_err {A = Unit {0}} q)) }

told_none : (ps : List Pair) {a : Result Unit Refusal} → verdict_of a ≡ violation_verdict ps → a ≡ Ok tt → T (is_empty ps)
told_none [] e q = tt
told_none (p ∷ ps) {a} e q = absurd (never (sym (ap verdict_of q) ∙ e))
  where
    never : accepted ≡ refused (first_violation (p ∷ ps)) → ⊥
    never z = let z : ◌≡◌ {A = ℕ} 0 1 = cc in omega arith

told_pair : (ps : List Pair) {a : Result Unit Refusal} {why : Refusal} → verdict_of a ≡ violation_verdict ps → a ≡ Err why
    → T (not (is_empty ps)) × (first_violation ps ≡ numbered why)
told_pair [] {a} {why} e q = absurd (never (sym (ap verdict_of q) ∙ e))
  where
    never : refused (numbered why) ≡ accepted → ⊥
    never z = let z : ◌≡◌ {A = ℕ} 0 1 = cc in omega arith
told_pair (p ∷ ps) {a} {why} e q = (tt, same (sym (ap verdict_of q) ∙ e))
  where
    same : refused (numbered why) ≡ refused (first_violation (p ∷ ps)) → first_violation (p ∷ ps) ≡ numbered why
    same z = cc

-- ---- memory written twice

overwrite_twice : (n : ℕ) (f : ℕ → ℕ) (l : List ℕ) → overwrite n f (overwrite n f l) ≡ overwrite n f l
unfolding overwrite
overwrite_twice n f l = ap (λ r. tabulate n f ++ r) (drop_overwrite f l n)

module _ (S : Study) (l m : List ℕ) where
  distances_own : m ≡ distances_of S l → m ≡ distances_of S m
  unfolding distances_of
  distances_own e = e ∙ sym (ap (distances_of S) e ∙ overwrite_twice 14400 (λ p. distance S (p / 120) (p % 120)) l)

  settings_own : m ≡ settings_of S l → m ≡ settings_of S m
  unfolding settings_of
  settings_own e = e ∙ sym (ap (settings_of S) e ∙ overwrite_twice 120 (λ i. (tide S i).setting) l)

module _ (s : List ℕ) where
  abbrev k : ℕ
  k = bits_at s 15 4

  abbrev n : ℕ
  n = bits_at s 8 7

  abbrev S : Study
  S = (decoded s).study

  abbrev P : ℕ → Study
  P t = (part s t).study

  pub part_whole : decoded s ≡ part s n
  unfolding decoded part
  part_whole = refl

  decoded_k : S.k ≡ k
  unfolding decoded
  decoded_k = refl

  part_size : (t : ℕ) → size (P t) ≡ t
  unfolding part
  part_size t = length_tabulate t (tide_at s k)

  -- its tides are those of the file
  part_tide : (t u : ℕ) → t ≤ n → u < t → tide (P t) u ≡ tide S u
  unfolding part tide
  part_tide t u l m = get_d_tabulate t (tide_at s k) u no_tide m ∙ sym (decoded_tide s u (omega (arith, decoded_size s)))

  part_distance : (t u v : ℕ) → t ≤ n → u < t → v < t → distance (P t) u v ≡ distance S u v
  unfolding distance
  part_distance t u v l a b =
      ap₂ (λ (x y : Tide). cond (ltb u v) (get_or y.row u 0) (cond (ltb v u) (get_or x.row v 0) 0)) (part_tide t u l a) (part_tide t v l b)

  -- ---- one tide more

  abbrev row : ℕ → List ℕ
  row t = (tide_at s (bits_at s 15 4) t).row

  row_length : (t : ℕ) → length (row t) ≡ t
  unfolding tide_at
  row_length t = length_tabulate t _

  next_part : (t x : ℕ) → x ≡ (tide_at s k t).setting → entered x (row t) (P t) ≡ P (t + 1)
  unfolding entered part
  next_part t x e =
      ap (λ (z : ℕ). entered z (row t) (P t)) e
      ∙ ap (λ (ts : List Tide). record { k = k; minima = minima_at s k; tides = ts })
      (sym (tabulate_suc t (tide_at s k)) ∙ ap (λ m. tabulate m (tide_at s k)) (sym (add-one t)))

  setting_next : (t : ℕ) → t < n → (tide_at s k t).setting ≡ bits_at s (bit_length (counts_in s) k t) 3 + 1
  unfolding tide_at
  setting_next t l = refl

  module _ (t : ℕ) (more : t < n) (matrix vector : List ℕ) (L : Loaded s t matrix vector) where
    below : t < 120
    below = omega (arith, L.head.few)

    in_file : t < size S
    in_file = omega (arith, decoded_size s)

    -- tide t has a distance for each tide before it, and there is room for it
    fits_row : length (row t) ≡ size (P t)
    fits_row = row_length t ∙ sym (part_size t)

    room : size (P t) < 120
    room = omega (arith, part_size t, below)

    -- its row and its column
    module _ (new : List ℕ) (e : new ≡ with_row (tide_at s (bits_at s 15 4) t).row t matrix) where
      row_laid : new ≡ distances_of (P (t + 1)) matrix
      row_laid =
          let x = (tide_at s k t).setting in
          e ∙ ap₂ (with_row (row t)) (sym (row_length t)) L.distances
          ∙ more_distances (P t) x (row t) fits_row room matrix L.long
          ∙ ap (λ (Q : Study). distances_of Q matrix) (next_part t x refl)

      distance_laid : (i j : ℕ) → i ≤ t → j ≤ t → cell new i j ≡ distance S i j
      unfolding distances_of
      distance_laid i j a b =
          let p : (i * 120 + j) / 120 ≡ i = omega (arith, below) in
          let q : (i * 120 + j) % 120 ≡ j = omega (arith, below) in
          ap (λ (l : List ℕ). cell l i j) row_laid
          ∙ getD_overwrite (λ p. distance (P (t + 1)) (p / 120) (p % 120)) matrix 14400 (i * 120 + j) 0 (omega (arith, below))
          ∙ ap₂ (distance (P (t + 1))) p q
          ∙ part_distance (t + 1) i j (omega arith) (omega arith) (omega arith)

      pairs_laid : violations (cell new) t (cell new t) ≡ violations_at S t
      pairs_laid =
          violations_same (cell new) (distance S) t (cell new t) (distance S t)
          (λ i j a b. distance_laid i j (omega arith) (omega arith)) (λ i a. distance_laid t i (omega arith) (omega arith))

      new_length : length new ≡ length matrix
      unfolding distances_of
      new_length = ap length row_laid ∙ length_overwrite (λ p. distance (P (t + 1)) (p / 120) (p % 120)) matrix 14400 L.long

    -- ---- the ways on

    module _ (less : ℕ) (read : less ≡ bits_at s (bit_length (counts_in s) (bits_at s 15 4) t) 3) where
      pub turn_five : bits_at s 15 4 ≤ less → first_of (read_reasons s) ≡ refused (number 5)
      turn_five h = refused_five s t L.clear in_file (omega (arith, decoded_setting s t in_file, decoded_k))

      module _ (fits : less < bits_at s 15 4) (new : List ℕ) (e : new ≡ with_row (tide_at s (bits_at s 15 4) t).row t matrix)
          (a : Result Unit Refusal) (found : verdict_of a ≡ violation_verdict (violations (cell new) t (cell new t))) where
        fits_setting : (tide S t).setting ≤ S.k
        fits_setting = omega (arith, decoded_setting s t in_file, decoded_k)

        verdict : verdict_of a ≡ violation_verdict (violations_at S t)
        verdict = found ∙ ap violation_verdict (pairs_laid new e)

        pub turn_seven : {why : Refusal} → a ≡ Err why → first_of (read_reasons s) ≡ refused (numbered why)
        turn_seven q =
            let w = told_pair (violations_at S t) verdict q in
            refused_seven s t L.clear in_file fits_setting w.0 ∙ ap refused w.1

        pub turn_next : a ≡ Ok tt → Loaded s (t + 1) new (set vector t (less + 1))
        turn_next q =
            record {
              head = L.head;
              clear = clear_more s t L.clear in_file fits_setting (told_none (violations_at S t) verdict q);
              distances = distances_own (P (t + 1)) matrix new (row_laid new e);
              settings = settings_own (P (t + 1)) vector (set vector t (less + 1)) settings_laid;
              long = omega (arith, new_length new e, L.long);
              enough = simp length-set L.enough;
            }
          where
            x_is : less + 1 ≡ (tide_at s k t).setting
            x_is = ap (λ z. z + 1) read ∙ sym (setting_next t more)

            settings_laid : set vector t (less + 1) ≡ settings_of (P (t + 1)) vector
            settings_laid =
                ap₂ (λ l i. set l i (less + 1)) L.settings (sym (part_size t))
                ∙ more_settings (P t) (less + 1) (row t) fits_row room vector L.enough
                ∙ ap (λ (Q : Study). settings_of Q vector) (next_part t (less + 1) x_is)

  -- ---- the start and the end

  pub loaded_none : (matrix vector : List ℕ) → Head s → first_of (head_reasons s) ≡ accepted → length matrix ≡ 14400 → length vector ≡ 120
      → ((i : ℕ) → get_or matrix i 0 ≡ 0) → ((i : ℕ) → get_or vector i 0 ≡ 0) → Loaded s 0 matrix vector
  unfolding distances_of settings_of
  loaded_none matrix vector h e l m f g =
      record {
        head = h;
        clear = clear_none s e;
        distances = sym (overwrite_same (λ p. distance (P 0) (p / 120) (p % 120)) matrix 14400 0 (omega arith)
            (λ p _. distance_none (P 0) (p / 120) (p % 120) (inl (omega (arith, part_size 0))) ∙ sym (f p)));
        settings = sym (overwrite_same (λ i. (tide (P 0) i).setting) vector 120 0 (omega arith)
            (λ i _. setting_none (P 0) i (omega (arith, part_size 0)) ∙ sym (g i)));
        long = omega arith;
        enough = omega arith;
      }

  module _ (matrix vector : List ℕ) (L : Loaded s n matrix vector) where
    pub loaded_accepted : first_of (read_reasons s) ≡ accepted
    loaded_accepted = (accepted-T s).1 (subst (Clear s) (sym (decoded_size s)) L.clear)

    pub copied_distances : (d : List ℕ) → overwrite 14400 (λ p. get_or matrix p 0) d ≡ distances_of (decoded s).study d
    unfolding distances_of
    copied_distances d =
        overwrite_ext (λ p. get_or matrix p 0) d 14400 (λ p. distance S (p / 120) (p % 120))
        (λ p l. ap (λ (m : List ℕ). get_or m p 0) L.distances ∙ getD_overwrite (λ p. distance (P n) (p / 120) (p % 120)) matrix 14400 p 0 l
        ∙ ap (λ (H : Contents). distance H.study (p / 120) (p % 120)) (sym part_whole))

    pub copied_settings : (g : List ℕ) → overwrite 120 (λ i. get_or vector i 0) g ≡ settings_of (decoded s).study g
    unfolding settings_of
    copied_settings g =
        overwrite_ext (λ i. get_or vector i 0) g 120 (λ i. (tide S i).setting)
        (λ i l. ap (λ (m : List ℕ). get_or m i 0) L.settings ∙ getD_overwrite (λ i. (tide (P n) i).setting) vector 120 i 0 l
        ∙ ap (λ (H : Contents). (tide H.study i).setting) (sym part_whole))
