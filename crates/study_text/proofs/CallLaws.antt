-- The ways out of each call that a text makes: Open, Minima, Enter or a measured tide. Assumes nothing.
use Prim.Native.Nat.{ℕ, zero, suc, ◌+◌, ◌<◌}
use mathlib.Core.Path.{◌≡◌, refl, sym, ap, ◌∙◌, subst}
use mathlib.Core.Bool.{true, false}
use native.Mathlib.Numerals.{add-one}
use mathlib.Core.List.{List, [], ◌∷◌, ◌++◌}
use lib.ListN.{length, drop, get_or, replicate}
use lib.Seq.{get_or-drop}
use Rattle.std.specs.Prelude.{Result, Err}
use Rattle.lists.specs.Lists.{tabulate, all_of}
use Rattle.lists.proofs.Tables.{tabulate_is}
use Rattle.study.specs.declared.Minima.{Minima}
use Rattle.study.specs.declared.Refusal.{Refusal}
use Rattle.study.specs.Study.{size}
use Rattle.study.proofs.CallLaws.{opening_valid, minima_valid, entering_valid}
use Rattle.study.specs.Calls.{open_reasons, opening, minima_reasons, setting_minima, enter_reasons, entering}
use Rattle.study.specs.Refusals.{accepted, verdict_of, settled, is_user, first_of}
use Rattle.study.specs.Theorems.{ValidContents}
use Rattle.validity.specs.Memory.{State, short, study_of, contents_of}
use Rattle.validity.proofs.ValidityLaws.{study_size}
use Rattle.access.specs.Calls.{holding_of, kept, anew, Update, changes, answer, made, after}
use Rattle.access.specs.Passed.{Passed}
use Rattle.access.proofs.AccessLaws.{source_own, update_own}
use Rattle.dataset.specs.Calls.{opens_dataset, sets_minima, enters_tide}
use Rattle.narrowing.specs.Narrowing.{narrowed, narrow_minima}
use Rattle.narrowing.proofs.Proofs.{unchanged, as_given}
use Rattle.study_text.specs.declared.TextError.{TextError}
use Rattle.study_text.specs.declared.Rule.{Rule}
use Rattle.study_text.specs.declared.Rule.TheVariants as RuleCase
use Rattle.text_words.specs.declared.Cursor.{Cursor}
use Rattle.text_words.specs.Words.{CursorWithin}
use Rattle.study_text.specs.Packing.{error_report, Got, got, stop, number_of, numbers_of, minima_from, opening_of, minima_of, tide_of}
use Rattle.study_text.specs.Steps.{at_line}
use Rattle.study_text.proofs.StepLaws.{number_within, numbers_within}
use Rattle.study_text.specs.Reached.{Took, Alive, Reaches}
use Rattle.study_text.proofs.ReachedLaws.{Answers, reaches_stops, call_reaches, valid_held, took_entered, took_reaches}

-- ---- the answers

module _ {s t : State} {a : Result Unit Refusal} where
  open_answers : (k : ℕ) → short s ≡ false → (verdict_of a ≡ answer s (opens_dataset k)) × (t ≡ after s (opens_dataset k))
      → Answers s a t (first_of (open_reasons k)) (opening k)
  unfolding opens_dataset after made
  open_answers k e (v, l) =
      let own = sym (source_own s _ e) in
      record { not_short = e; verdict = v ∙ own; leaves = l ∙ ap (λ w. settled w (anew (opening k) s) s) own; valid = opening_valid k }

  -- a change of a dataset in the name of users that there are
  update_answers : (U : Update) → all_of is_user U.caller.users ≡ true → Passed s → (verdict_of a ≡ answer s (changes U)) × (t ≡ after s (changes U))
      → (first_of (U.own (holding_of s)) ≡ accepted → ValidContents (U.makes (holding_of s)).contents)
      → Answers s a t (first_of (U.own (holding_of s))) (U.makes (holding_of s)).contents
  unfolding after made
  update_answers U k P (v, l) ok =
      let own = sym (update_own s U P k) in
      record { not_short = P.not_short; verdict = v ∙ own; leaves = l ∙ ap (λ w. settled w (kept (U.makes (holding_of s)) s) s) own; valid = ok }

  module _ (P : Passed s) where
    minima_answers : (M : Minima) → (verdict_of a ≡ answer s (sets_minima M)) × (t ≡ after s (sets_minima M))
        → Answers s a t (first_of (minima_reasons (contents_of s).study M)) (setting_minima M (contents_of s))
    unfolding sets_minima
    minima_answers M did = update_answers _ refl P did (minima_valid M (contents_of s) (valid_held P))

    enter_answers : (x : ℕ) (row : List ℕ) → (verdict_of a ≡ answer s (enters_tide x row)) × (t ≡ after s (enters_tide x row))
        → Answers s a t (first_of (enter_reasons (contents_of s).study x row)) (entering x row (contents_of s))
    unfolding enters_tide
    enter_answers x row did = update_answers _ refl P did (entering_valid x row (contents_of s) (valid_held P))

-- ---- Open

module _ (text : List ℕ) (from : Cursor) where
  pub open_stops : {r : Result Unit TextError} {x : TextError} {s : State} {c : Cursor} → r ≡ Err x → stop (error_report x) ≡ number_of text from
      → Reaches RuleCase.Entered text r s c (opening_of text from)
  unfolding opening_of
  open_stops e f = reaches_stops e (rw (← f))

  pub open_goes : (s : State) (a : Result Unit Refusal) {r : Result Unit TextError} {t : State} {k y : ℕ} {c : Cursor} → CursorWithin text from
      → got k c ≡ number_of text from → short s ≡ false → y ≡ narrowed k
      → (verdict_of a ≡ answer s (opens_dataset y)) × (t ≡ after s (opens_dataset y)) → r ≡ at_line c.line a
      → Reaches RuleCase.Entered text r t c (opening_of text from)
  unfolding opening_of
  open_goes s a {k = k} w f e i did j =
      let same = as_given s opens_dataset k i ((unchanged s).on_open k) did in
      rw (← f) (call_reaches (number_within w (sym f)) (open_answers {a = a} k e same) j)

-- ---- Minima

padded : (xs zs : List ℕ) → ((i : ℕ) → get_or zs i 0 ≡ 0) → (i : ℕ) → get_or (xs ++ zs) i 0 ≡ get_or xs i 0
padded [] zs z i = z i
padded (x ∷ xs) zs z zero = refl
padded (x ∷ xs) zs z (suc i) = padded xs zs z i

zeros_at : (m i : ℕ) → ◌≡◌ {A = ℕ} (get_or (replicate m 0) i 0) 0
zeros_at zero i = refl
zeros_at (suc m) zero = refl
zeros_at (suc m) (suc i) = zeros_at m i

-- b0 and the b's, each as a byte
pub minima_bytes : (xs : List ℕ) (b0 : ℕ) (b : List ℕ) → b0 ≡ narrowed (get_or xs 0 0) → length b ≡ 8
    → ((j : ℕ) → j < 8 → get_or b j 0 ≡ narrowed (get_or xs (j + 1) 0)) → record { b0 = b0; b = b } ≡ narrow_minima (minima_from xs)
unfolding narrow_minima minima_from tabulate
minima_bytes xs b0 b e long at =
    λ i. record {
      b0 = e i;
      b = sym (tabulate_is 8 (λ j. narrowed (get_or xs (suc j) 0)) 0 b long (λ j l. sym (at j l ∙ ap (λ k. narrowed (get_or xs k 0)) (add-one j)))) i;
    }

-- the b's above k are 0
minima_padded : (xs : List ℕ) (n : ℕ) → minima_from (xs ++ drop n (replicate 9 0)) ≡ minima_from xs
unfolding minima_from
minima_padded xs n = λ i. record { b0 = same 0 i; b = tabulate 8 (λ j. same (suc j) i) }
  where
    same : (i : ℕ) → get_or (xs ++ drop n (replicate 9 0)) i 0 ≡ get_or xs i 0
    same = padded xs (drop n (replicate 9 0)) (λ i. get_or-drop n (replicate 9 0) i 0 ∙ zeros_at 9 (n + i))

module _ {text : List ℕ} {from : Cursor} {s : State} (A : Alive RuleCase.Entered text s from) {n : ℕ} (e : n ≡ s.dataset.k + 1) where
  -- the number of minima is that of the settings, and one
  minima_numbers : {read : Got (List ℕ)} → read ≡ numbers_of text n from → numbers_of text (suc (contents_of s).study.k) from ≡ read
  unfolding contents_of study_of
  minima_numbers f = ap (λ m. numbers_of text m from) (sym (e ∙ add-one s.dataset.k)) ∙ sym f

  pub minima_stops : {r : Result Unit TextError} {x : TextError} {t : State} {c : Cursor} → r ≡ Err x → stop (error_report x) ≡ numbers_of text n from
      → Reaches RuleCase.Entered text r t c (minima_of text (contents_of s) from)
  unfolding minima_of
  minima_stops q f = reaches_stops q (rw (minima_numbers f))

  pub minima_goes : (a : Result Unit Refusal) {r : Result Unit TextError} {t : State} {c : Cursor} (xs : List ℕ) (m : ℕ) {M : Minima}
      → got xs c ≡ numbers_of text n from → M ≡ narrow_minima (minima_from (xs ++ drop m (replicate 9 0)))
      → (verdict_of a ≡ answer s (sets_minima M)) × (t ≡ after s (sets_minima M)) → r ≡ at_line c.line a
      → Reaches RuleCase.Entered text r t c (minima_of text (contents_of s) from)
  unfolding minima_of
  minima_goes a {c = c} xs m {M} f j did k =
      let read : numbers_of text (suc (contents_of s).study.k) from ≡ got xs c = minima_numbers f in
      let given : M ≡ narrow_minima (minima_from xs) = j ∙ ap narrow_minima (minima_padded xs m) in
      let same = as_given s sets_minima (minima_from xs) given ((unchanged s).on_minima (minima_from xs)) did in
      rw read (call_reaches (numbers_within (suc (contents_of s).study.k) A.within read) (minima_answers {a = a} A.held (minima_from xs) same) k)

-- ---- tides

-- Enter, given the setting as a byte
pub enter_took : {s t : State} (a : Result Unit Refusal) {x y : ℕ} {row : List ℕ} → Passed s → y ≡ narrowed x
    → (verdict_of a ≡ answer s (enters_tide y row)) × (t ≡ after s (enters_tide y row)) → Took RuleCase.Entered s x row a t
enter_took {s} a {x} {y} {row} P i did =
    let same = as_given s (λ z. enters_tide z row) x i ((unchanged s).on_enter x row) did in
    took_entered a (enter_answers {a = a} P x row same) P

module _ {rule : Rule} {text : List ℕ} {from : Cursor} {s : State} (A : Alive rule text s from) (x : ℕ) {n : ℕ} (e : n ≡ s.dataset.n) where
  tide_numbers : {read : Got (List ℕ)} → read ≡ numbers_of text n from → numbers_of text (size (contents_of s).study) from ≡ read
  unfolding contents_of
  tide_numbers f = ap (λ m. numbers_of text m from) (study_size s ∙ sym e) ∙ sym f

  pub tide_stops : {r : Result Unit TextError} {y : TextError} {t : State} {c : Cursor} → r ≡ Err y → stop (error_report y) ≡ numbers_of text n from
      → Reaches rule text r t c (tide_of rule text (contents_of s) x from)
  unfolding tide_of
  tide_stops q f = reaches_stops q (rw (tide_numbers f))

  pub tide_goes : {a : Result Unit Refusal} {r : Result Unit TextError} {t : State} {c : Cursor} (xs : List ℕ) {ys : List ℕ}
      → got xs c ≡ numbers_of text n from → ys ≡ xs → Took rule s x ys a t → r ≡ at_line c.line a
      → Reaches rule text r t c (tide_of rule text (contents_of s) x from)
  unfolding tide_of
  tide_goes {a} {t = t} {c} xs f i did k =
      let read : numbers_of text (size (contents_of s).study) from ≡ got xs c = tide_numbers f in
      let same = subst (λ zs. Took rule s x zs a t) i did in
      rw read (took_reaches (numbers_within (size (contents_of s).study) A.within read) same k)
