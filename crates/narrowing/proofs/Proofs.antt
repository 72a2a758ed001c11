-- `Unchanged` of Narrowing.antt, proved: no number above 254 is taken by a call, and none stands in a dataset. Assumes nothing.
use Prim.Native.Nat.{ℕ, suc, ◌≤◌, ◌<◌}
use native.Mathlib.Omega.{arith}
use mathlib.Core.Path.{◌≡◌, refl, sym, ap, ap₂, ◌∙◌}
use mathlib.Core.Logic.{◌⊎◌, inl, inr, ⊎_elim}
use mathlib.Core.Bool.{Bool, true, false, not, true≢false}
use mathlib.Core.List.{List, [], ◌∷◌, map}
use lib.Dec.{T}
use lib.ListN.{length, get_or, length-map, get_or-map}
use lib.Seq.{ext_get_or}
use borrow.Author.Tests.{lt-ltb, le-ltb}
use Rattle.lists.specs.Lists.{between, all_of}
use Rattle.lists.proofs.Tests.{T-left, T_false, true-T, not_not, test, split, between-T}
use Rattle.lists.proofs.Scans.{between_high}
use Rattle.lists.proofs.Counts.{sum_suc}
use Rattle.lists.proofs.Counting.{sum_front}
use Rattle.study.specs.declared.Minima.{Minima}
use Rattle.study.specs.Minima.{Acceptable}
use Rattle.study.specs.Study.{Study, size, valid_minima}
use Rattle.study.specs.Refusals.{number, Verdict, accepted, refused, settled, ◌⇒◌, first_of, fresh_reasons, is_user}
use Rattle.study.specs.Calls.{open_reasons, opening, understood, minima_reasons, setting_minima, enter_reasons, entering, withdraw_reasons, withdrawing}
use Rattle.study.specs.Theorems.{ValidContents}
use Rattle.study.proofs.CallLaws.{none_holds}
use Rattle.study.proofs.ReasonLaws.{first_of_after}
use Rattle.study.proofs.LadderLaws.{ladder_same}
use Rattle.study.proofs.MinimaLaws.{fit_acceptable, acceptable-T}
use Rattle.validity.specs.Memory.{State, state_of, set_k, set_minima, short, is_dataset, contents_of}
use Rattle.validity.specs.Validity.{IsStudy}
use Rattle.validity.proofs.Proofs.{for_datasets}
use Rattle.access.specs.Calls.{Holding, fresh, on_contents, holding_of, held, kept, Source, Update, Call, begins, changes, answer, made, after}
use Rattle.access.proofs.AccessLaws.{ladder_is, accepted_held, user_place, source_answer, source_accepted, update_answer}
use Rattle.dataset.specs.Calls.{opens_dataset, sets_minima, enters_tide, withdraws_tide}
use Rattle.narrowing.specs.Narrowing.{narrowed, narrow_minima, narrow_dataset, narrow_state, Alike, Unchanged}

-- what either of two tests tells, or that neither passes
either : {A : Type 0} (a b : Bool) → (T a → A) → (T b → A) → A ⊎ ((a ≡ false) × (b ≡ false))
either true b f g = inl (f tt)
either false true f g = inl (g tt)
either false false f g = inr (refl, refl)

-- ---- a number

narrow_small : (x : ℕ) → x < 256 → narrowed x ≡ x
unfolding narrowed
narrow_small x h = rw (lt-ltb x 256 h)

narrow_large : (x : ℕ) → 256 ≤ x → narrowed x ≡ 255
unfolding narrowed
narrow_large x h = rw (le-ltb x 256 h)

-- what is below 255 was not cut
narrow_below : (x : ℕ) → narrowed x < 255 → narrowed x ≡ x
narrow_below x h = ⊎_elim (λ (l : x < 256). narrow_small x l) (λ (g : 256 ≤ x). omega (arith, narrow_large x g)) (split x 256)

-- a number that must be 1 to n
module _ (n x : ℕ) (few : n < 255) where
  between_same : between 1 n (narrowed x) ≡ between 1 n x
  between_same =
      ⊎_elim (λ (l : x < 256). ap (between 1 n) (narrow_small x l))
      (λ (g : 256 ≤ x). between_high 1 n (narrowed x) (omega (arith, narrow_large x g)) ∙ sym (between_high 1 n x (omega arith)))
      (split x 256)

  -- a number that passes was not cut
  between_uncut : T (not (not (between 1 n x))) → narrowed x ≡ x
  between_uncut t = narrow_small x (omega (arith, ((between-T 1 n x).0 (not_not (between 1 n x) t)).1))

-- a user
module _ (u : ℕ) where
  users_same : all_of is_user (narrowed u ∷ []) ≡ all_of is_user (u ∷ [])
  users_same = rw (between_same 4 u (omega arith))

  user_uncut : all_of is_user (u ∷ []) ≡ true → narrowed u ≡ u
  user_uncut e = narrow_small u (omega (arith, (user_place u (T-left (is_user u) true (true-T (all_of is_user (u ∷ [])) e))).1))

-- ---- minima

-- element j of the narrowed list
narrow_at : (bs : List ℕ) (j : ℕ) → get_or (map narrowed bs) j 0 ≡ narrowed (get_or bs j 0)
narrow_at bs j = ap (get_or (map narrowed bs) j) (sym (narrow_small 0 (omega arith))) ∙ get_or-map narrowed bs j 0

-- no b is above their sum
b_small : {k : ℕ} {M : Minima} → Acceptable k M → (j : ℕ) → j < length M.b → get_or M.b j 0 ≤ 120
b_small {k} {M} A j h =
    let b : ℕ → ℕ = λ i. get_or M.b i 0 in
    omega (arith, A.eight, A.sum, sum_suc j b, sum_front b (suc j) 8 (omega (arith, A.eight)))

module _ (k : ℕ) (M : Minima) where
  uncut : narrowed M.b0 ≡ M.b0 → ((j : ℕ) → j < length (map narrowed M.b) → narrowed (get_or M.b j 0) ≡ get_or M.b j 0) → narrow_minima M ≡ M
  unfolding narrow_minima
  uncut e f = λ i. record { b0 = e i; b = ext_get_or 0 (map narrowed M.b) M.b (length-map M.b narrowed) (λ j h. narrow_at M.b j ∙ f j h) i }

  -- minima that Minima takes, before or after, were not cut
  taken_uncut : Acceptable k M → narrow_minima M ≡ M
  taken_uncut A =
      uncut (narrow_small M.b0 (omega (arith, A.high)))
      (λ j h. narrow_small (get_or M.b j 0) (omega (arith, b_small A j (omega (arith, length-map M.b narrowed)))))

  narrow_uncut : Acceptable k (narrow_minima M) → narrow_minima M ≡ M
  unfolding narrow_minima
  narrow_uncut A =
      uncut (narrow_below M.b0 (omega (arith, A.high)))
      (λ j h. narrow_below (get_or M.b j 0) (omega (arith, b_small A j h, narrow_at M.b j)))

  abbrev valid? : Minima → Bool
  valid? N = valid_minima k (understood N)

  valid_same : valid? (narrow_minima M) ≡ valid? M
  valid_same =
      ⊎_elim (ap valid?) (λ n. n.0 ∙ sym n.1)
      (either (valid? (narrow_minima M)) (valid? M) (λ t. narrow_uncut ((acceptable-T k (narrow_minima M)).0 t)) (λ t. taken_uncut ((acceptable-T k M).0 t)))

  valid_uncut : T (not (not (valid? M))) → narrow_minima M ≡ M
  valid_uncut t = taken_uncut ((acceptable-T k M).0 (not_not (valid? M) t))

-- ---- a tide's setting

-- one that is cut is refused 5, as it is given and as it is cut, whatever the later reasons make of it
enter_same : (S : Study) (x : ℕ) (row : List ℕ) → S.k < 255 → first_of (enter_reasons S (narrowed x) row) ≡ first_of (enter_reasons S x row)
unfolding first_of enter_reasons
enter_same S x row few =
    ⊎_elim (λ t. ap (λ y. first_of (enter_reasons S y row)) (narrow_small x (omega (arith, ((between-T 1 S.k x).0 t).1))))
    (λ t. rw (between_same S.k x few, T_false (between 1 S.k x) t)) (test (between 1 S.k x))

-- ---- a call given other arguments: the same first reason, and the same contents where none holds

module _ (s : State) where
  leaves_same : {v w : Verdict} {new new' : Holding} → w ≡ v → (v ≡ accepted → new' ≡ new) → settled w (kept new' s) s ≡ settled v (kept new s) s
  leaves_same {v} {w} {new} {new'} e f = ap (λ u. settled u (kept new' s) s) e ∙ by v f
    where
      by : (u : Verdict) → (u ≡ accepted → new' ≡ new) → settled u (kept new' s) s ≡ settled u (kept new s) s
      by accepted g = ap (λ H. kept H s) (g refl)
      by (refused r) g = refl

  valid : is_dataset s ≡ true → ValidContents (contents_of s)
  valid e = for_datasets.valid s (true-T (is_dataset s) e)

  -- two updates; of a user who is none nothing else matters
  module _ (U W : Update) (users_same : all_of is_user W.caller.users ≡ all_of is_user U.caller.users)
      (same : (H : Holding) → ValidContents H.contents → all_of is_user U.caller.users ≡ true → first_of (W.own H) ≡ first_of (U.own H))
      (makes_same : (H : Holding) → ValidContents H.contents → all_of is_user U.caller.users ≡ true → first_of (U.own H) ≡ accepted
      → W.makes H ≡ U.makes H) where
    answer_same : answer s (changes W) ≡ answer s (changes U)
    answer_same =
        let H = holding_of s in
        update_answer s W ∙ sym (ladder_is s W.caller W.own)
        ∙ ladder_same (short s) U.caller.users W.caller.users (is_dataset s) (U.own H) (W.own H) users_same
        (λ A. same H (valid A.tested) A.known)
        ∙ ladder_is s U.caller U.own ∙ sym (update_answer s U)

    update_same : Alike s (changes W) (changes U)
    unfolding after made
    update_same = (
      answer_same,
      leaves_same answer_same (λ e.
          let A = accepted_held s U.caller U.own (sym (update_answer s U) ∙ e) in
          makes_same (holding_of s) (valid A.tested) A.known A.reasons),
    )

  -- ---- the record itself

  record_uncut : narrowed s.dataset.k ≡ s.dataset.k → narrow_minima s.dataset.minima ≡ s.dataset.minima → narrow_state s ≡ s
  unfolding narrow_dataset
  record_uncut e f =
      λ i. state_of (set_k (e i) (set_minima (f i) s.dataset)) s.distances s.settings

  dataset_uncut : IsStudy s → narrow_state s ≡ s
  dataset_uncut D =
      record_uncut (narrow_small s.dataset.k (omega (arith, D.k_high)))
      (taken_uncut s.dataset.k s.dataset.minima (fit_acceptable D.minima))

  narrow_dataset_uncut : IsStudy (narrow_state s) → narrow_state s ≡ s
  unfolding narrow_dataset
  narrow_dataset_uncut D =
      record_uncut (narrow_below s.dataset.k (omega (arith, D.k_high)))
      (narrow_uncut (narrowed s.dataset.k) s.dataset.minima (fit_acceptable D.minima))

  -- the record as it is, or neither is a dataset
  pub cut_or_none : (narrow_state s ≡ s) ⊎ ((is_dataset (narrow_state s) ≡ false) × (is_dataset s ≡ false))
  cut_or_none =
      either (is_dataset (narrow_state s)) (is_dataset s) (λ t. narrow_dataset_uncut ((for_datasets.exactly (narrow_state s)).0 t).study)
      (λ t. dataset_uncut ((for_datasets.exactly s).0 t).study)

  held_same : held (narrow_state s) ≡ held s
  unfolding held short
  held_same = ⊎_elim (λ e. ap held e) (λ n. rw (n.0, n.1)) cut_or_none

  within : is_dataset s ≡ true → narrow_state s ≡ s
  within f = ⊎_elim (λ e. e) (λ n. absurd (true≢false (sym f ∙ n.1))) cut_or_none

  -- two calls that begin anew
  pub source_same : (S W : Source) → first_of W.own ≡ first_of S.own → (first_of S.own ≡ accepted → W.brings ≡ S.brings)
      → Alike s (begins W) (begins S)
  unfolding after made fresh_reasons
  source_same S W same brings-same =
      let e = source_answer s W ∙ first_of_after ((short s ⇒ number 1) ∷ []) W.own S.own (λ _. same) ∙ sym (source_answer s S) in
      (e, leaves_same e (λ a. ap fresh (brings-same (source_accepted s S a).1)))

  open_same : (k : ℕ) → Alike s (opens_dataset (narrowed k)) (opens_dataset k)
  unfolding opens_dataset open_reasons
  open_same k =
      source_same _ _ (rw (between_same 8 k (omega arith)))
      (λ a. ap opening (between_uncut 8 k (omega arith) (none_holds (open_reasons k) a).0))

pub unchanged : (s : State) → Unchanged s
unfolding sets_minima enters_tide withdraws_tide minima_reasons enter_reasons withdraw_reasons
unchanged s =
    record {
      on_open = open_same s;
      on_minima = λ M.
          update_same s _ _ refl (λ H ok k. rw (valid_same H.contents.study.k M))
          (λ H ok k a. ap (λ N. on_contents (setting_minima N) H)
          (valid_uncut H.contents.study.k M (none_holds (minima_reasons H.contents.study M) a).0));
      on_enter = λ x row.
          update_same s _ _ refl (λ H ok k. enter_same H.contents.study x row (omega (arith, ok.study.k_high)))
          (λ H ok k a. ap (λ y. on_contents (entering y row) H)
          (between_uncut H.contents.study.k x (omega (arith, ok.study.k_high)) (none_holds (enter_reasons H.contents.study x row) a).1.1.0));
      on_withdraw = λ u t.
          update_same s _ _ (users_same u)
          (λ H ok k. rw (user_uncut u k, between_same (size H.contents.study) t (omega (arith, ok.study.few))))
          (λ H ok k a. ap₂ (λ v x. on_contents (withdrawing v x) H) (user_uncut u k)
          (between_uncut (size H.contents.study) t (omega (arith, ok.study.few)) (none_holds (withdraw_reasons H.contents u t) a).0));
      on_record = held_same s;
      within = within s;
    }

-- ---- for the callers

-- a call that took y did what it does with x, where y is z, and z does what x does
pub as_given : {A : Type 0} (s : State) (call : A → Call) (x : A) {w : Verdict} {t : State} {y z : A} → y ≡ z
    → Alike s (call z) (call x) → (w ≡ answer s (call y)) × (t ≡ after s (call y)) → (w ≡ answer s (call x)) × (t ≡ after s (call x))
as_given s call x e same did = (did.0 ∙ ap (λ y. answer s (call y)) e ∙ same.0, did.1 ∙ ap (λ y. after s (call y)) e ∙ same.1)
