-- Whatever a text of measured tides comes to holds a measured study. Assumes nothing.
use Prim.Native.Nat.{ℕ, zero, suc}
use mathlib.Core.Path.{◌≡◌, refl, subst}
use mathlib.Core.List.{List}
use Rattle.std.specs.Prelude.{Result, Ok, Err}
use Rattle.study.specs.Study.{Contents, size, MeasuredStudy}
use Rattle.study.specs.Refusals.{Verdict, accepted, refused, first_of}
use Rattle.study.specs.Theorems.{ValidContents}
use Rattle.study.specs.Calls.{open_reasons, opening, minima_reasons, setting_minima, measured_reasons, entering}
use Rattle.study.proofs.CallLaws.{opening_valid, minima_valid, valid_measured, measures, entered_measured}
use Rattle.text_words.specs.declared.Cursor.{Cursor}
use Rattle.text_words.specs.declared.Word.{Word}
use Rattle.text_words.specs.declared.Word.TheVariants as WordCase
use Rattle.text_words.specs.declared.WordError.{WordError}
use Rattle.text_words.specs.Words.{next_of}
use Rattle.study_text.specs.declared.Rule.TheVariants as RuleCase
use Rattle.study_text.specs.Packing.{Got, got, stop, onward, called, number_of, numbers_of, minima_from, opening_of, minima_of, head_of, tide_of}
use Rattle.study_text.specs.Packing.{Turn, going, ended, stopped, entered, turn_from, turn_of, further, turns_of, text_of}

-- ---- what was read, where something was

abbrev Gets : {A : Type 0} → (A → Type 0) → Got A → Type 0
Gets Q (got x c) = Q x
Gets Q (stop t) = Unit {0}

gets_onward : {A B : Type 0} (P : A → Type 0) (Q : B → Type 0) (g : Got A) (f : A → Cursor → Got B) → Gets P g
    → ((x : A) (c : Cursor) → P x → Gets Q (f x c)) → Gets Q (onward g f)
gets_onward P Q (got x c) f p h = h x c p
gets_onward P Q (stop t) f p h = tt

gets_any : {A : Type 0} (g : Got A) → Gets (λ x. Unit {0}) g
gets_any (got x c) = tt
gets_any (stop t) = tt

-- a call that is accepted makes something of the kind
gets_called : (Q : Contents → Type 0) (v : Verdict) (H : Contents) (c : Cursor) → (v ≡ accepted → Q H) → Gets Q (called v H c)
gets_called Q accepted H c q = q refl
gets_called Q (refused r) H c q = tt

-- ---- the head: a valid study without tides

head_valid : (text : List ℕ) → Gets ValidContents (head_of text)
unfolding head_of opening_of minima_of
head_valid text =
    gets_onward ValidContents ValidContents (opening_of text start) (minima_of text)
    (gets_onward (λ k. Unit {0}) ValidContents (number_of text start) (λ k d. called (first_of (open_reasons k)) (opening k) d)
    (gets_any (number_of text start)) (λ k d u. gets_called ValidContents (first_of (open_reasons k)) (opening k) d (opening_valid k)))
    (λ H c ok.
    gets_onward (λ xs. Unit {0}) ValidContents (numbers_of text (suc H.study.k) c)
    (λ xs d. called (first_of (minima_reasons H.study (minima_from xs))) (setting_minima (minima_from xs) H) d)
    (gets_any (numbers_of text (suc H.study.k) c))
    (λ xs d u. gets_called ValidContents (first_of (minima_reasons H.study (minima_from xs))) (setting_minima (minima_from xs) H) d
    (minima_valid (minima_from xs) H ok)))
  where
    start : Cursor
    start = record { at = 0; line = 1 }

-- ---- the tides

abbrev Measured : Contents → Type 0
Measured H = MeasuredStudy H.study

tide_measured : (text : List ℕ) (H : Contents) (x : ℕ) (c : Cursor) → Measured H → Gets Measured (tide_of RuleCase.Measured text H x c)
unfolding tide_of entering
tide_measured text H x c ok =
    gets_onward (λ row. Unit {0}) Measured (numbers_of text (size H.study) c)
    (λ row d. called (first_of (measured_reasons H.study x row)) (entering x row H) d)
    (gets_any (numbers_of text (size H.study) c))
    (λ row d u. gets_called Measured (first_of (measured_reasons H.study x row)) (entering x row H) d
    (λ e. entered_measured x row H.study ok (measures H.study x row e)))

-- what a turn comes to
abbrev Holds : Turn → Type 0
Holds (going H c) = Measured H
Holds (ended H l) = Measured H
Holds (stopped t) = Unit {0}

holds_entered : (g : Got Contents) → Gets Measured g → Holds (entered g)
holds_entered (got H c) m = m
holds_entered (stop t) m = tt

turn_holds : (text : List ℕ) (H : Contents) (c : Cursor) → Measured H → Holds (turn_of RuleCase.Measured text H c)
unfolding turn_of
turn_holds text H c ok = by (next_of text c)
  where
    by : (w : Result Word WordError) → Holds (turn_from RuleCase.Measured text H w)
    by (Ok (WordCase.Number x d)) = holds_entered (tide_of RuleCase.Measured text H x d) (tide_measured text H x d ok)
    by (Ok (WordCase.End l)) = ok
    by (Err e) = tt

further_holds : (text : List ℕ) (t : Turn) → Holds t → Holds (further t (turn_of RuleCase.Measured text))
further_holds text (going H c) m = turn_holds text H c m
further_holds text (ended H l) m = m
further_holds text (stopped t) m = tt

turns_hold : (text : List ℕ) (n : ℕ) (t : Turn) → Holds t → Holds (turns_of RuleCase.Measured text n t)
unfolding turns_of
turns_hold text zero t m = m
turns_hold text (suc n) t m = further_holds text (turns_of RuleCase.Measured text n t) (turns_hold text n t m)

valid_holds : (g : Got Contents) → Gets ValidContents g → Holds (entered g)
valid_holds (got H c) ok = valid_measured ok.study
valid_holds (stop t) ok = tt

pub text_measured : (text : List ℕ) (H : Contents) (l : ℕ) → text_of RuleCase.Measured text ≡ ended H l → MeasuredStudy H.study
unfolding text_of
text_measured text H l e = subst Holds e (turns_hold text 121 (entered (head_of text)) (valid_holds (head_of text) (head_valid text)))
