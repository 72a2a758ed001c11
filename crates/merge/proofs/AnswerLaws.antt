-- The ways out of a merge: of what the code has found out, what it answers and leaves. Assumes nothing.
use Prim.Native.Nat.{ℕ, ◌+◌, ◌≤◌, ◌<◌}
use native.Mathlib.Omega.{arith}
use mathlib.Core.Path.{◌≡◌, refl, sym, ap, ◌∙◌, subst}
use mathlib.Core.Logic.{⊎_elim}
use mathlib.Core.Bool.{Bool, true, false, ◌&&◌, ◌||◌, true≢false}
use mathlib.Core.List.{List, [], append-nil}
use lib.Dec.{T, leb, eqb, leb→le}
use lib.ListN.{length, set, replicate}
use borrow.Author.Tests.{le-leb, lt-leb, leb-true, eqb-false, ne_eqb}
use Rattle.lists.specs.Lists.{every, tabulate, overwrite, at}
use Rattle.lists.proofs.Tests.{T_true, T_false, T-left, T-right, true-T, not_not, split, every_at}
use Rattle.lists.proofs.Scans.{every_fails, every_done}
use Rattle.lists.proofs.Tables.{get_d_tabulate, overwrite_none, overwrite_step, overwrite_done}
use Rattle.study.specs.Limits.{max_tides, table_size, max_users, max_withdrawals}
use Rattle.study.specs.declared.Refusal.{Refusal}
use Rattle.std.specs.Prelude.{Result, Ok, Err}
use Rattle.study.specs.Study.{Study, size}
use Rattle.study.specs.Refusals.{numbered, number, Verdict, accepted, refused, verdict_of, Reason, first_of, fresh_reasons, held_reasons}
use Rattle.study.specs.Theorems.{ValidContents}
use Rattle.study.proofs.CallLaws.{none_holds}
use Rattle.study.proofs.LadderLaws.{Accepts, ladder_accepts, ladder_refuses}
use Rattle.validity.specs.Memory.{State, state_of, short, is_dataset, study_of, contents_of, set_k, set_size, set_minima, set_counts, record_of, distances_of}
use Rattle.validity.specs.Memory.{settings_of, stored}
use Rattle.validity.proofs.LayoutLaws.{long}
use Rattle.validity.proofs.ValidityLaws.{study_size}
use Rattle.access.specs.Calls.{answer, made, after}
use Rattle.access.specs.Passed.{Passed}
use Rattle.access.proofs.AccessLaws.{passed_by, passed_valid, unmoved, leaves, source_short, source_own}
use Rattle.merge.specs.Merge.{shared, merged_study, added_counts, merged, agreeing, agree, in_range, countable, merge_reasons}
use Rattle.merge.specs.Calls.{source_reasons, merges_datasets}
use Rattle.merge.specs.Theorems.{ForContents}
use Rattle.merge.specs.Sources.{Agreed, RestIn, MergeAccepted}
use Rattle.merge.specs.Rows.{added_row, with_rows, with_settings}
use Rattle.merge.proofs.SourceLaws.{pairs_are, agree_same, named_by}
use Rattle.merge.proofs.RestLaws.{rest_long}
use Rattle.merge.proofs.MergedLaws.{merged_size}
use Rattle.merge.proofs.TableLaws.{Joining, crossing_test, near, distances_laid, settings_laid}
use Rattle.merge.proofs.Proofs.{for_merges}

-- ---- the counts

module _ (v w : List ℕ) where
  abbrev pub fits : ℕ → Bool
  fits i = leb (at (added_counts v w) i) max_withdrawals

  added_at : (i : ℕ) → i < max_users → at (added_counts v w) i ≡ at v i + at w i
  unfolding added_counts
  added_at i l = get_d_tabulate max_users (λ i. at v i + at w i) i 0 l

  module _ (i : ℕ) (l : i < max_users) {x y : ℕ} (x_is : x ≡ at v i) (y_is : y ≡ at w i) where
    pub count_fits : x + y ≤ max_withdrawals → fits i ≡ true
    count_fits h = le-leb (at (added_counts v w) i) max_withdrawals (omega (arith, added_at i l))

    pub count_over : max_withdrawals < x + y → false ≡ countable (added_counts v w)
    unfolding countable
    count_over h = sym (every_fails fits max_users i l (lt-leb (at (added_counts v w) i) max_withdrawals (omega (arith, added_at i l))))

  pub counts_pass : (i : ℕ) → i ≤ max_users → max_users ≤ i → every i fits ≡ true → true ≡ countable (added_counts v w)
  unfolding countable
  counts_pass i a b e = sym (every_done fits i max_users a b e)

  countable_at : countable (added_counts v w) ≡ true → (i : ℕ) → i < max_users → at v i + at w i ≤ max_withdrawals
  unfolding countable
  countable_at e i l =
      let h = leb-true (at (added_counts v w) i) max_withdrawals (T_true (fits i) (every_at max_users fits (true-T (every max_users fits) e) i l)) in
      omega (arith, added_at i l)

-- the first i sums in an array, and zeros
pub record Summed (v w sums : List ℕ) (i : ℕ) : Type 0 where
  pub is : sums ≡ overwrite i (λ k. at v k + at w k) (replicate max_users 0)
  pub inside : i ≤ max_users

module _ {v w : List ℕ} where
  pub summed_none : Summed v w (replicate max_users 0) 0
  summed_none = record { is = overwrite_none (λ k. at v k + at w k) (replicate max_users 0); inside = omega arith }

  pub summed_more : {sums : List ℕ} {i : ℕ} → Summed v w sums i → i < max_users → Summed v w (set sums i (at v i + at w i)) (i + 1)
  summed_more {i = i} F l =
      record { is = overwrite_step (λ k. at v k + at w k) (replicate max_users 0) (at v i + at w i) F.is refl l; inside = omega arith }

  pub summed_all : {sums : List ℕ} {i : ℕ} → Summed v w sums i → max_users ≤ i → sums ≡ added_counts v w
  unfolding overwrite added_counts
  summed_all {i = i} F k =
      let e : i ≡ max_users = omega (arith, F.inside) in
      overwrite_done (λ k. at v k + at w k) (replicate max_users 0) e F.is ∙ append-nil (tabulate max_users (λ k. at v k + at w k))

-- ---- with what a merge begins

module _ (a b : State) where
  -- the ladder alone
  abbrev ladder : Verdict
  ladder = first_of (held_reasons (short a || short b) [] (is_dataset a && is_dataset b) [])

  pub sources_1 : short a ≡ true → refused (number 1) ≡ ladder
  unfolding held_reasons fresh_reasons first_of
  sources_1 e = rw e

  module _ (fits_a : short a ≡ false) where
    pub sources_1_second : short b ≡ true → refused (number 1) ≡ ladder
    unfolding held_reasons fresh_reasons first_of
    sources_1_second e = rw (fits_a, e)

    module _ (fits_b : short b ≡ false) where
      pub sources_21 : is_dataset a ≡ false → refused (number 21) ≡ ladder
      unfolding held_reasons fresh_reasons first_of
      sources_21 e = rw (fits_a, fits_b, e)

      pub sources_21_second : is_dataset a ≡ true → is_dataset b ≡ false → refused (number 21) ≡ ladder
      unfolding held_reasons fresh_reasons first_of
      sources_21_second d e = rw (fits_a, fits_b, d, e)

      pub sources_done : is_dataset a ≡ true → is_dataset b ≡ true → accepted ≡ ladder
      unfolding held_reasons fresh_reasons first_of
      sources_done d e = rw (fits_a, fits_b, d, e)

  -- what it tells that none of the ladder's reasons holds
  pub record Checked : Type 0 where
    pub first : Passed a
    pub second : Passed b

  neither : (x y : Bool) → x || y ≡ false → (x ≡ false) × (y ≡ false)
  neither true y e = absurd (true≢false e)
  neither false y e = (refl, e)

  checked_by : (own : List Reason) → Accepts (short a || short b) [] (is_dataset a && is_dataset b) own → Checked
  checked_by own A =
      let fits = neither (short a) (short b) A.not_short in
      let both = true-T (is_dataset a && is_dataset b) A.tested in
      record {
        first = passed_by a fits.0 (T_true (is_dataset a) (T-left (is_dataset a) (is_dataset b) both));
        second = passed_by b fits.1 (T_true (is_dataset b) (T-right (is_dataset a) (is_dataset b) both));
      }

  pub checked : {r : Result Unit Refusal} {done : Unit} → r ≡ Ok done → verdict_of r ≡ ladder → Checked
  checked e f = checked_by [] (ladder_accepts (short a || short b) [] (is_dataset a && is_dataset b) [] (sym (sym (ap verdict_of e) ∙ f)))

-- ---- the reasons, one by one

module _ (a b : State) (f g : List ℕ) where
  abbrev A : Study
  A = study_of a

  abbrev B : Study
  B = study_of b

  abbrev M : Study
  M = merged_study A B (shared f g)

  abbrev own : List Reason
  own = merge_reasons (contents_of a) (contents_of b) f g

  -- the answer, where the third's memory is long enough
  abbrev decision : Verdict
  decision = first_of (source_reasons a b f g)

  -- what refuses before its own reasons refuses it
  pub merge_refused_lem : {r : Result Unit Refusal} {x : Refusal} → r ≡ Err x → refused (numbered x) ≡ ladder a b → verdict_of r ≡ decision
  unfolding source_reasons
  merge_refused_lem e h = ap verdict_of e ∙ sym (ladder_refuses (short a || short b) [] (is_dataset a && is_dataset b) own (sym h))

  -- past them its own reasons decide
  merge_own : Passed a → Passed b → (v : Verdict) → first_of own ≡ v → v ≡ decision
  unfolding source_reasons held_reasons fresh_reasons first_of
  merge_own first second v q = sym q ∙ rw (first.not_short, second.not_short, first.tested, second.tested)

  module _ (C : Checked a b) where
    pub merge_17 : {r : Bool} → r ≡ eqb (shared f g).pairs 0 → r ≡ true → refused (number 17) ≡ decision
    unfolding merge_reasons first_of
    merge_17 e h = merge_own C.first C.second (refused (number 17)) (rw (sym e ∙ h))

    module _ (some : eqb (shared f g).pairs 0 ≡ false) where
      pub merge_16 : agree A B f g ≡ false → refused (number 16) ≡ decision
      unfolding merge_reasons first_of contents_of
      merge_16 q = merge_own C.first C.second (refused (number 16)) (rw (some, q))

      pub agreed : agree A B f g ≡ true → Agreed a b f g
      unfolding agree
      agreed q =
          let same = agree_same A B f g q in
          let m = pairs_are f g same in
          let all = T-right (eqb A.k B.k) (every (shared f g).pairs (agreeing A B f g)) (true-T (agree A B f g) q) in
          let passed = T_true (every (length f) (agreeing A B f g)) (subst (λ z. T (every z (agreeing A B f g))) m all) in
          record {
            paired = record {
              named = named_by a b f g C.first C.second (omega arith) (omega arith) passed;
              same_length = same;
              some = some_pair (shared f g).pairs some m;
            };
            agrees = q;
          }
        where
          some_pair : (n : ℕ) → eqb n 0 ≡ false → n ≡ length f → 0 < length f
          some_pair n z m = ⊎_elim (λ l. l) (λ l. absurd (eqb-false n 0 z (omega arith))) (split 0 (length f))

  -- ---- past 16

  module _ (G : Agreed a b f g) where
    -- none of the reasons before 22
    past_17 : eqb (shared f g).pairs 0 ≡ false
    past_17 = ne_eqb (shared f g).pairs 0 (λ z. omega (arith, pairs_are f g G.paired.same_length, G.paired.some))

    decided : (v : Verdict) → first_of own ≡ v → v ≡ decision
    decided = merge_own G.paired.named.first G.paired.named.second

    module _ {count : ℕ} {table : List ℕ} (R : RestIn (shared f g) b.dataset.n count table) where
      size_is : size M ≡ a.dataset.n + count
      size_is = omega (arith, merged_size A B (shared f g), study_size a, rest_long B (shared f g) R (study_size b))

      pub merge_22 : max_tides < a.dataset.n + count → refused (number 22) ≡ decision
      unfolding merge_reasons first_of contents_of merged
      merge_22 l = decided (refused (number 22)) (rw (past_17, G.agrees, lt-leb (size M) max_tides (omega (arith, size_is))))

      module _ (l : a.dataset.n + count ≤ max_tides) where
        past_22 : leb (size M) max_tides ≡ true
        past_22 = le-leb (size M) max_tides (omega (arith, size_is))

        pub joining : Joining a b f g count table
        joining = record { paired = G.paired; rest = R; few = l }

        -- whether the distances are in range, as the code finds it
        in_range_is : {r x : Bool} → r ≡ every count (near joining) → r ≡ x → in_range M ≡ x
        in_range_is e q = sym (crossing_test joining) ∙ sym e ∙ q

        module _ {r : Bool} (e : r ≡ every count (near joining)) where
          pub merge_6 : r ≡ false → refused (number 6) ≡ decision
          unfolding merge_reasons first_of contents_of merged
          merge_6 q = decided (refused (number 6)) (rw (past_17, G.agrees, past_22, in_range_is e q))

          module _ (q : r ≡ true) where
            pub merge_26 : countable (added_counts a.dataset.withdrawn b.dataset.withdrawn) ≡ false → refused (number 26) ≡ decision
            unfolding merge_reasons first_of contents_of merged
            merge_26 h = decided (refused (number 26)) (rw (past_17, G.agrees, past_22, in_range_is e q, h))

            pub merge_done : countable (added_counts a.dataset.withdrawn b.dataset.withdrawn) ≡ true → accepted ≡ decision
            unfolding merge_reasons first_of contents_of merged
            merge_done h = decided accepted (rw (past_17, G.agrees, past_22, in_range_is e q, h))

  -- ---- accepted

  -- what it tells
  abbrev Merging : Type 0
  Merging = Accepts (short a || short b) [] (is_dataset a && is_dataset b) own

  merging : decision ≡ accepted → Merging
  unfolding source_reasons
  merging e = ladder_accepts (short a || short b) [] (is_dataset a && is_dataset b) own e

  -- both are datasets, and of their contents merged all holds that is proved of two valid studies
  pub record Merges : Type 0 where
    pub sources : Checked a b
    pub contents : ForContents (contents_of a) (contents_of b) f g

  pub merges : decision ≡ accepted → Merges
  merges e =
      let X = merging e in
      let C = checked_by a b own X in
      record {
        sources = C;
        contents = for_merges (contents_of a) (contents_of b) f g (passed_valid a C.first) (passed_valid b C.second) X.reasons;
      }

  -- so they are valid
  pub merged_valid : decision ≡ accepted → ValidContents (merged (contents_of a) (contents_of b) f g)
  merged_valid e = (merges e).contents.valid

  module _ (s : State) where
    -- the third's memory is short
    pub third_1 : short s ≡ true → (refused (number 1) ≡ answer s (merges_datasets a b f g)) × (s ≡ after s (merges_datasets a b f g))
    unfolding merges_datasets
    third_1 e = let q = source_short s _ e in (q, unmoved s _ q)

    -- or its answer is this one
    decides : short s ≡ false → decision ≡ answer s (merges_datasets a b f g)
    unfolding merges_datasets
    decides e = source_own s _ e

    pub merge_stays : {r : Result Unit Refusal} {x : Refusal} → short s ≡ false → r ≡ Err x → refused (numbered x) ≡ decision
        → (verdict_of r ≡ answer s (merges_datasets a b f g)) × (s ≡ after s (merges_datasets a b f g))
    merge_stays room e h = let q = h ∙ decides room in (ap verdict_of e ∙ q, unmoved s (merges_datasets a b f g) q)

    pub merge_answers : {v : Verdict} → short s ≡ false → v ≡ decision → v ≡ answer s (merges_datasets a b f g)
    merge_answers room h = h ∙ decides room

    pub merge_accepted : {r : Result Unit Refusal} {done : Unit} → short s ≡ false → r ≡ Ok done → verdict_of r ≡ decision → MergeAccepted a b f g s
    unfolding merges_datasets merge_reasons contents_of merged made
    merge_accepted room e h =
        let q : accepted ≡ decision = sym (ap verdict_of e) ∙ h in
        let X = merging (sym q) in
        let C = checked_by a b own X in
        let none = none_holds own X.reasons in
        let G = agreed C (T_false (eqb (shared f g).pairs 0) none.0) (T_true (agree A B f g) (not_not (agree A B f g) none.1.0)) in
        let few = leb→le (size M) max_tides (not_not (leb (size M) max_tides) none.1.1.0) in
        let counts = added_counts a.dataset.withdrawn b.dataset.withdrawn in
        record {
          paired = G.paired;
          long = long s room;
          few = omega (arith, merged_size A B (shared f g), study_size a);
          counts = countable_at a.dataset.withdrawn b.dataset.withdrawn (T_true (countable counts) (not_not (countable counts) none.1.1.1.1.0));
          leaves = leaves s (merges_datasets a b f g) (q ∙ decides room);
        }

    -- the remaining tides of an accepted merge are in a table: there is room for them
    pub accepted_joining : {count : ℕ} {table : List ℕ} → MergeAccepted a b f g s → RestIn (shared f g) b.dataset.n count table
        → Joining a b f g count table
    accepted_joining X R =
        record { paired = X.paired; rest = R; few = omega (arith, X.few, rest_long B (shared f g) R (study_size b)) }

    -- the first's k and minima, the tides and counts of both in the record, the merged table and settings in memory
    pub merged_state : {count : ℕ} {table sums d t : List ℕ} → MergeAccepted a b f g s → RestIn (shared f g) b.dataset.n count table
        → sums ≡ added_counts a.dataset.withdrawn b.dataset.withdrawn
        → d ≡ with_rows (added_row a.dataset.n a.distances b.distances f g table) count (overwrite table_size (at a.distances) s.distances)
        → t ≡ with_settings a.dataset.n (λ r. at b.settings (at table r)) count (overwrite max_tides (at a.settings) s.settings)
        → state_of (set_k a.dataset.k (set_size (a.dataset.n + count) (set_minima a.dataset.minima (set_counts sums s.dataset)))) d t
        ≡ after s (merges_datasets a b f g)
    unfolding stored record_of merged merged_study contents_of study_of
    merged_state {count} {table} {sums} {d} {t} X R sum rows settings = laid ∙ X.leaves
      where
        J : Joining a b f g count table
        J = accepted_joining X R

        size_is : a.dataset.n + count ≡ size (merged_study A B (shared f g))
        size_is = omega (arith, merged_size A B (shared f g), study_size a, rest_long B (shared f g) R (study_size b))

        far : d ≡ distances_of M s.distances
        far = distances_laid J s.distances X.long.distances rows

        held : t ≡ settings_of M s.settings
        held = settings_laid J s.settings X.long.settings settings

        laid : state_of (set_k a.dataset.k (set_size (a.dataset.n + count) (set_minima a.dataset.minima (set_counts sums s.dataset)))) d t
            ≡ stored (merged (contents_of a) (contents_of b) f g) s
        laid = λ i. state_of (set_k a.dataset.k (set_size (size_is i) (set_minima a.dataset.minima (set_counts (sum i) s.dataset)))) (far i) (held i)
