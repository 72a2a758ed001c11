-- The ways out of each call: of what the code has found out, what the call answers and leaves. Assumes nothing.
use Prim.Native.Nat.{ℕ, suc, ◌+◌, ◌-◌, ◌≤◌, ◌<◌}
use native.Mathlib.Omega.{arith}
use native.Mathlib.Numerals.{add-one}
use mathlib.Core.Path.{◌≡◌, refl, sym, ap, ap₂, ◌∙◌}
use mathlib.Core.Logic.{◌⊎◌, inl, inr, ⊎_elim}
use mathlib.Core.Bool.{Bool, true, false, cond, not, true≢false}
use mathlib.Core.List.{List}
use lib.Dec.{T, leb, eqb}
use lib.ListN.{length, get_or, set, replicate}
use borrow.Author.Tests.{le-leb, lt-leb, eq-eqb, ne_eqb}
use Rattle.lists.specs.Lists.{between, every, overwrite}
use Rattle.lists.proofs.Tests.{split}
use Rattle.study.specs.Limits.{cell}
use Rattle.study.specs.declared.Minima.{Minima}
use Rattle.study.specs.declared.Dataset.{Dataset}
use Rattle.std.specs.Prelude.{Option, Some, None, Result, Ok}
use Rattle.study.specs.declared.Refusal.{Refusal}
use Rattle.study.specs.Study.{Study, size, tide, distance, valid_minima}
use Rattle.study.specs.Refusals.{Numbered, number, seven, Verdict, accepted, refused, verdict_of, first_of}
use Rattle.study.specs.Refusals.{is_user}
use Rattle.study.specs.Calls.{open_reasons, opened, opening, sum_of_parts, understood, minima_reasons, with_minima, setting_minima, Pair, violations}
use Rattle.study.specs.Calls.{duplicated, enter_reasons, entered, entering, count_of, withdraw_reasons, withdrawn, counted, withdrawing}
use Rattle.study.proofs.CallLaws.{enters, entered_size, withdraws, withdrawn_size}
use Rattle.study.proofs.DuplicateLaws.{duplicated_same}
use Rattle.study.proofs.MinimaLaws.{understood_raised, too_much}
use Rattle.validity.specs.Memory.{State, state_of, short, study_of, contents_of, set_k, set_size, set_minima, set_counts, record_of, distances_of}
use Rattle.validity.specs.Memory.{settings_of, stored}
use Rattle.validity.proofs.ValidityLaws.{study_size, study_setting, study_distance}
use Rattle.validity.proofs.LayoutLaws.{own_layout}
use Rattle.triangle.specs.Pairs.{violation_of}
use Rattle.triangle.proofs.PairLaws.{found_nothing, found_pair, violations_same}
use Rattle.storage.proofs.PlaceLaws.{cleared_distances, cleared_settings, entered_distances, entered_settings, withdrawn_distances, withdrawn_settings}
use Rattle.storage.specs.Places.{with_row, moved_distance, moved_setting}
use Rattle.access.specs.Calls.{answer, made, after}
use Rattle.access.specs.Passed.{Passed}
use Rattle.access.proofs.AccessLaws.{one_user, user_known, user_place, passed_by, unmoved, leaves, source_short, source_own, update_own, update_accepted}
use Rattle.duplicates.specs.Scan.{duplicate_answer}
use Rattle.dataset.specs.Calls.{opens_dataset, sets_minima, enters_tide, withdraws_tide}
use Rattle.dataset.specs.Accepted.{tested_minima, EnterAccepted, WithdrawAccepted}

-- ---- Open

module _ (s : State) (k : ℕ) where
  -- refused for this reason
  open_refused : {r : Numbered} → refused r ≡ answer s (opens_dataset k) → (refused r ≡ answer s (opens_dataset k)) × (s ≡ after s (opens_dataset k))
  open_refused e = (e, unmoved s (opens_dataset k) e)

  pub open_1 : short s ≡ true → (refused (number 1) ≡ answer s (opens_dataset k)) × (s ≡ after s (opens_dataset k))
  unfolding opens_dataset
  open_1 e = open_refused (source_short s _ e)

  module _ (e : short s ≡ false) where
    -- its one reason answers
    open_own : (b : Bool) → between 1 8 k ≡ b → cond (not b) (refused (number 2)) accepted ≡ answer s (opens_dataset k)
    unfolding opens_dataset open_reasons first_of
    open_own b f = ap (λ b. cond (not b) (refused (number 2)) accepted) (sym f) ∙ source_own s _ e

    pub open_2 : between 1 8 k ≡ false → (refused (number 2) ≡ answer s (opens_dataset k)) × (s ≡ after s (opens_dataset k))
    open_2 f = open_refused (open_own false f)

    open_done : between 1 8 k ≡ true → (accepted ≡ answer s (opens_dataset k)) × (stored (opening k) s ≡ after s (opens_dataset k))
    unfolding opens_dataset made
    open_done f = let a = open_own true f in (a, leaves s (opens_dataset k) a)

    -- the record that Open makes, over cleared memory
    abbrev emptied : Dataset
    emptied = set_k k (set_size 0 (set_minima (record { b0 = 1; b = replicate 8 0 }) (set_counts (replicate 4 0) s.dataset)))

    pub opened_state : {d g : List ℕ} → between 1 8 k ≡ true → d ≡ overwrite 14400 (λ _. 0) s.distances → g ≡ overwrite 120 (λ _. 0) s.settings
        → (accepted ≡ answer s (opens_dataset k)) × (state_of emptied d g ≡ after s (opens_dataset k))
    unfolding stored opening record_of opened
    opened_state {d} {g} f p q =
        let w = open_done f in
        (w.0, ap₂ (state_of emptied) (p ∙ cleared_distances k s.distances) (q ∙ cleared_settings k s.settings) ∙ w.1)

-- ---- Minima

-- the record that the code tests
module _ (M : Minima) {sum : ℕ} (e : sum ≡ sum_of_parts M) where
  pub tested_given : 120 < sum → M ≡ tested_minima M
  tested_given h = rw (lt-leb (sum_of_parts M) 120 (omega arith))

  pub tested_understood : sum ≤ 120 → {N : Minima} → understood M ≡ N → N ≡ tested_minima M
  tested_understood h q = sym q ∙ rw (le-leb (sum_of_parts M) 120 (omega arith))

  pub tested_raised : sum ≤ 120 → 1 ≤ M.b0 → M.b0 < sum → record { b0 = sum; b = M.b } ≡ tested_minima M
  tested_raised h low below =
      ap (λ (x : ℕ). record { b0 = x; b = M.b }) e ∙ tested_understood h (understood_raised M low (omega arith))

module _ (k : ℕ) (M : Minima) {N : Minima} (e : N ≡ tested_minima M) where
  -- it is the record as understood, or neither is valid
  understood_or_invalid : (N ≡ understood M) ⊎ ((valid_minima k N ≡ false) × (valid_minima k (understood M) ≡ false))
  understood_or_invalid =
      ⊎_elim (λ h. let n = too_much k M h in inr (ap (valid_minima k) (e ∙ sym (tested_given M refl h)) ∙ n.0, n.1))
      (λ h. inl (e ∙ sym (tested_understood M refl h refl))) (split 120 (sum_of_parts M))

  tested_valid : valid_minima k (understood M) ≡ valid_minima k N
  tested_valid = ⊎_elim (λ q. ap (valid_minima k) (sym q)) (λ n. n.1 ∙ sym n.0) understood_or_invalid

  tested_is : valid_minima k N ≡ true → N ≡ understood M
  tested_is f = ⊎_elim (λ q. q) (λ n. absurd (true≢false (sym f ∙ n.0))) understood_or_invalid

module _ (s : State) (M : Minima) (P : Passed s) where
  minima_own : (v : Verdict) → first_of (minima_reasons (study_of s) M) ≡ v → v ≡ answer s (sets_minima M)
  unfolding sets_minima contents_of
  minima_own v q = sym q ∙ update_own s _ P refl

  -- the record with other minima, over the same memory
  abbrev with_new_minima : Minima → State → State
  with_new_minima N t = state_of (set_minima N t.dataset) t.distances t.settings

  minima_laid : with_new_minima (understood M) s ≡ stored (setting_minima M (contents_of s)) s
  unfolding stored record_of setting_minima with_minima distances_of settings_of distance tide
  minima_laid = sym (ap (with_new_minima (understood M)) (own_layout s P.study P.not_short))

  module _ {N : Minima} (e : N ≡ tested_minima M) where
    pub minima_3 : valid_minima s.dataset.k N ≡ false → (refused (number 3) ≡ answer s (sets_minima M)) × (s ≡ after s (sets_minima M))
    unfolding minima_reasons first_of study_of
    minima_3 f =
        let a = minima_own (refused (number 3)) (rw (tested_valid s.dataset.k M e, f)) in
        (a, unmoved s (sets_minima M) a)

    pub minima_done : valid_minima s.dataset.k N ≡ true → (accepted ≡ answer s (sets_minima M)) × (with_new_minima N s ≡ after s (sets_minima M))
    unfolding minima_reasons first_of study_of sets_minima made
    minima_done f =
        let a = minima_own accepted (rw (tested_valid s.dataset.k M e, f)) in
        let laid = ap (λ X. with_new_minima X s) (tested_is s.dataset.k M e f) ∙ minima_laid in
        (a, laid ∙ leaves s (sets_minima M) a)

-- ---- Enter

-- what the code has found out once it is past 22, 4, 5 and 6
pub record EnterTested (s : State) (setting : ℕ) (row : List ℕ) : Type 0 where
  pub passed : Passed s
  pub room : s.dataset.n < 120
  pub long : length row ≡ s.dataset.n
  pub kind : between 1 s.dataset.k setting ≡ true
  pub row_fits : every (length row) (λ i. leb (get_or row i 0) 1048575) ≡ true

module _ (s : State) (setting : ℕ) (row : List ℕ) where
  abbrev n : ℕ
  n = s.dataset.n

  abbrev S : Study
  S = study_of s

  abbrev new : ℕ → ℕ
  new i = get_or row i 0

  abbrev in_range : ℕ → Bool
  in_range i = leb (get_or row i 0) 1048575

  module _ (P : Passed s) where
    enter_own : (v : Verdict) → first_of (enter_reasons S setting row) ≡ v → v ≡ answer s (enters_tide setting row)
    unfolding enters_tide contents_of
    enter_own v q = sym q ∙ update_own s _ P refl

    pub enter_22 : 120 ≤ n → refused (number 22) ≡ answer s (enters_tide setting row)
    unfolding enter_reasons first_of
    enter_22 a = enter_own (refused (number 22)) (rw (le-leb 120 (size S) (omega (arith, study_size s))))

    module _ (room : n < 120) where
      past_22 : leb 120 (size S) ≡ false
      past_22 = lt-leb 120 (size S) (omega (arith, study_size s))

      pub enter_4 : (length row ≡ n → ⊥) → refused (number 4) ≡ answer s (enters_tide setting row)
      unfolding enter_reasons first_of
      enter_4 f = enter_own (refused (number 4)) (rw (past_22, ne_eqb (length row) (size S) (λ e. f (e ∙ study_size s))))

      module _ (long : length row ≡ n) where
        past_4 : eqb (length row) (size S) ≡ true
        past_4 = eq-eqb (length row) (size S) (long ∙ sym (study_size s))

        pub enter_5 : between 1 s.dataset.k setting ≡ false → refused (number 5) ≡ answer s (enters_tide setting row)
        unfolding enter_reasons first_of study_of
        enter_5 f = enter_own (refused (number 5)) (rw (past_22, past_4, f))

        module _ (kind : between 1 s.dataset.k setting ≡ true) where
          pub enter_6 : every (length row) in_range ≡ false → refused (number 6) ≡ answer s (enters_tide setting row)
          unfolding enter_reasons first_of study_of
          enter_6 f = enter_own (refused (number 6)) (rw (past_22, past_4, kind, f))

  -- past 22, 4, 5 and 6
  module _ (A : EnterTested s setting row) {r : Option (ℕ × ℕ)} (e : r ≡ violation_of (violations (cell s.distances) (length row) new)) where
    abbrev broken : List Pair
    broken = violations (distance S) (size S) new

    -- the study's distances are those in memory
    same : violation_of broken ≡ r
    same =
        let inside = A.long in
        ap (λ (k : ℕ). violation_of (violations (distance S) k new)) (study_size s ∙ sym inside)
        ∙ ap violation_of (violations_same (distance S) (cell s.distances) (length row) new new
        (λ i j a b. study_distance s A.passed.study i j (omega arith) (omega arith)) (λ i a. refl))
        ∙ sym e

    -- the study's settings are those in memory
    same_duplicate : duplicated (λ i. (tide S i).setting) (size S) setting new ≡ duplicated (λ i. get_or s.settings i 0) (length row) setting new
    same_duplicate =
        let inside = A.long in
        ap (λ (k : ℕ). duplicated (λ i. (tide S i).setting) k setting new) (study_size s ∙ sym inside)
        ∙ duplicated_same (length row) setting (λ i. (tide S i).setting) (λ i. get_or s.settings i 0) new new
        (λ i l. study_setting s i (omega arith)) (λ i l. refl)

    pub enter_7 : (i j : ℕ) → r ≡ Some (i, j) → refused (seven i j) ≡ answer s (enters_tide setting row)
    unfolding enter_reasons first_of study_of
    enter_7 i j q =
        let f = found_pair broken i j (same ∙ q) in
        enter_own A.passed (refused (seven i j))
        (rw (past_22 A.passed A.room, past_4 A.passed A.room A.long, A.kind, A.row_fits, f.0) (ap refused f.1))

    pub enter_15 : {v : Verdict} → r ≡ None → v ≡ duplicate_answer s.settings setting row → v ≡ answer s (enters_tide setting row)
    unfolding enter_reasons first_of study_of duplicate_answer
    enter_15 q p =
        let none = found_nothing broken (same ∙ q) in
        p ∙ enter_own A.passed _
        (rw (past_22 A.passed A.room, past_4 A.passed A.room A.long, A.kind, A.row_fits, none, same_duplicate))

  pub enter_accepted : {a : Result Unit Refusal} {done : Unit} → a ≡ Ok done → verdict_of a ≡ answer s (enters_tide setting row) → EnterAccepted s setting row
  unfolding enters_tide made contents_of
  enter_accepted e f =
      let q : accepted ≡ answer s (enters_tide setting row) = sym (ap verdict_of e) ∙ f in
      let h = update_accepted s _ (sym q) in
      let w = enters (study_of s) setting row h.reasons in
      record {
        passed = passed_by s h.not_short h.tested;
        room = omega (arith, w.measures.room, study_size s);
        length_is = w.measures.length_is ∙ study_size s;
        leaves = leaves s (enters_tide setting row) q;
      }

  -- one tide more in the record, its row and column and its setting in memory
  pub entered_state : {d g : List ℕ} → EnterAccepted s setting row → d ≡ with_row row (length row) s.distances → g ≡ set s.settings n setting
      → state_of (set_size (n + 1) s.dataset) d g ≡ after s (enters_tide setting row)
  unfolding stored record_of contents_of entering entered study_of
  entered_state {d} {g} A p q = laid ∙ A.leaves
    where
      count : n + 1 ≡ size (entered setting row S)
      count = add-one n ∙ sym (entered_size setting row S ∙ ap suc (study_size s))

      far : d ≡ distances_of (entered setting row S) s.distances
      far = p ∙ entered_distances s A.passed.study setting row A.length_is A.room A.passed.long.distances

      held : g ≡ settings_of (entered setting row S) s.settings
      held = q ∙ entered_settings s A.passed.study setting row A.length_is A.room A.passed.long.settings

      laid : state_of (set_size (n + 1) s.dataset) d g ≡ stored (entering setting row (contents_of s)) s
      laid = λ i. state_of (set_size (count i) s.dataset) (far i) (held i)

-- ---- Withdraw

module _ (s : State) (u t : ℕ) where
  module _ (P : Passed s × T (is_user u)) where
    withdraw_own : (v : Verdict) → first_of (withdraw_reasons (contents_of s) u t) ≡ v → v ≡ answer s (withdraws_tide u t)
    unfolding withdraws_tide
    withdraw_own v q = sym q ∙ update_own s _ P.0 (one_user u P.1)

    numbers : (b : Bool) → between 1 s.dataset.n t ≡ b → between 1 (size (study_of s)) t ≡ b
    numbers b e = ap (λ (z : ℕ). between 1 z t) (study_size s) ∙ e

    pub withdraw_23 : between 1 s.dataset.n t ≡ false → refused (number 23) ≡ answer s (withdraws_tide u t)
    unfolding withdraw_reasons first_of contents_of
    withdraw_23 e = withdraw_own (refused (number 23)) (rw (numbers false e))

    module _ (held : between 1 s.dataset.n t ≡ true) where
      pub withdraw_26 : 65535 ≤ count_of s.dataset.withdrawn u → refused (number 26) ≡ answer s (withdraws_tide u t)
      unfolding withdraw_reasons first_of contents_of
      withdraw_26 h = withdraw_own (refused (number 26)) (rw (numbers true held, le-leb 65535 (count_of s.dataset.withdrawn u) h))

      pub withdraw_done : count_of s.dataset.withdrawn u < 65535 → accepted ≡ answer s (withdraws_tide u t)
      unfolding withdraw_reasons first_of contents_of
      withdraw_done h = withdraw_own accepted (rw (numbers true held, lt-leb 65535 (count_of s.dataset.withdrawn u) h))

  pub withdraw_accepted : {a : Result Unit Refusal} {done : Unit} → a ≡ Ok done → verdict_of a ≡ answer s (withdraws_tide u t) → WithdrawAccepted s u t
  unfolding withdraws_tide made contents_of
  withdraw_accepted e f =
      let q : accepted ≡ answer s (withdraws_tide u t) = sym (ap verdict_of e) ∙ f in
      let h = update_accepted s _ (sym q) in
      let w = withdraws (contents_of s) u t h.reasons in
      let k = user_place u (user_known u h.known) in
      record {
        passed = passed_by s h.not_short h.tested;
        user_low = k.0;
        user_high = k.1;
        low = w.low;
        high = omega (arith, w.high, study_size s);
        countable = w.countable;
        leaves = leaves s (withdraws_tide u t) q;
      }

  -- one tide fewer in the record and one withdrawal more of this user, the later tides moved in memory
  pub withdrawn_state : {d g : List ℕ} → WithdrawAccepted s u t → d ≡ overwrite 14400 (moved_distance s.distances (t - 1)) s.distances
      → g ≡ overwrite 120 (moved_setting s.settings (t - 1)) s.settings
      → state_of (set_size (s.dataset.n - 1) (set_counts (counted u s.dataset.withdrawn) s.dataset)) d g ≡ after s (withdraws_tide u t)
  unfolding stored record_of contents_of withdrawing withdrawn study_of
  withdrawn_state {d} {g} A p q = laid ∙ A.leaves
    where
      count : s.dataset.n - 1 ≡ size (withdrawn (t - 1) (study_of s))
      count = omega (arith, withdrawn_size (t - 1) (study_of s) (omega (arith, A.low, A.high, study_size s)), study_size s)

      far : d ≡ distances_of (withdrawn (t - 1) (study_of s)) s.distances
      far = p ∙ withdrawn_distances s A.passed.study (t - 1)

      held : g ≡ settings_of (withdrawn (t - 1) (study_of s)) s.settings
      held = q ∙ withdrawn_settings s A.passed.study (t - 1)

      one_more : Dataset
      one_more = set_counts (counted u s.dataset.withdrawn) s.dataset

      laid : state_of (set_size (s.dataset.n - 1) one_more) d g ≡ stored (withdrawing u t (contents_of s)) s
      laid = λ i. state_of (set_size (count i) one_more) (far i) (held i)
