-- What the code's own types say, and the steps of reading numbers. Assumes nothing.
use Prim.Native.Nat.{ℕ, zero, suc, ◌+◌, ◌-◌, ◌<◌}
use native.Mathlib.Omega.{arith}
use native.Mathlib.Nat.{zero-add, suc-add}
use native.Mathlib.Numerals.{add-one}
use mathlib.Core.Path.{◌≡◌, refl, sym, ap, ◌∙◌, subst}
use mathlib.Core.List.{List, [], ◌∷◌, ◌++◌}
use lib.ListN.{length, take, set}
use lib.Seq.{take-suc-set, take_all}
use Rattle.std.specs.Prelude.{Result, Ok, Err}
use Rattle.study_text.specs.declared.TextError.{TextError}
use Rattle.text_words.specs.declared.Cursor.{Cursor}
use Rattle.text_words.specs.declared.Word.{Word}
use Rattle.text_words.specs.declared.Word.TheVariants as WordCase
use Rattle.text_words.specs.declared.WordError.{WordError}
use Rattle.text_words.specs.Words.{next_of, CursorWithin}
use Rattle.text_words.proofs.WordLaws.{next_within}
use Rattle.study_text.specs.Packing.{Report, error_report, no_number, Got, got, stop, number_from, number_of, onward, numbers_of}

-- ---- one number

pub number_is : {g : Got ℕ} (text : List ℕ) (c : Cursor) {w v : Result Word WordError} → w ≡ next_of text c → w ≡ v → g ≡ number_from v → g ≡ number_of text c
unfolding number_of
number_is text c e f h = h ∙ ap number_from (sym f ∙ e)

-- a word that is no number stops the reading
pub number_stops : {w : WordError} (x : TextError) (text : List ℕ) (c : Cursor) → error_report x ≡ no_number w.line w.why → Err w ≡ next_of text c
    → stop (error_report x) ≡ number_of text c
unfolding number_of
number_stops x text c h e = ap stop h ∙ ap number_from e

-- ---- a row of numbers

number_from_lem : (w : Result Word WordError) {x : ℕ} {d : Cursor} → number_from w ≡ got x d → w ≡ Ok (WordCase.Number x d)
number_from_lem (Ok (WordCase.Number y e)) h = cc
number_from_lem (Ok (WordCase.End l)) h = absurd (let z : ◌≡◌ {A = ℕ} 0 1 = cc in omega arith)
number_from_lem (Err e) h = absurd (let z : ◌≡◌ {A = ℕ} 0 1 = cc in omega arith)

pub number_within : {text : List ℕ} {c d : Cursor} {x : ℕ} → CursorWithin text c → number_of text c ≡ got x d → CursorWithin text d
unfolding number_of
number_within {text} {c} w e = next_within w (number_from_lem (next_of text c) e)

-- i numbers are read into the row
pub record ReadTo (text : List ℕ) (from : Cursor) (i : ℕ) (row : List ℕ) (c : Cursor) : Type 0 where
  pub is : numbers_of text i from ≡ got (take i row) c
  pub within : CursorWithin text c

-- what stops n numbers stops more
stays : (text : List ℕ) (from : Cursor) (n d : ℕ) {t : Report} → numbers_of text n from ≡ stop t → numbers_of text (d + n) from ≡ stop t
unfolding numbers_of
stays text from n zero {t} e = subst (λ k. numbers_of text k from ≡ stop t) (sym (zero-add n)) e
stays text from n (suc d) {t} e = rw (suc-add d n, stays text from n d e)

module _ {text : List ℕ} {from : Cursor} where
  pub row_none : {row : List ℕ} → CursorWithin text from → ReadTo text from 0 row from
  unfolding numbers_of
  row_none w = record { is = refl; within = w }

  pub row_more : {row : List ℕ} {i x : ℕ} {c d : Cursor} → ReadTo text from i row c → got x d ≡ number_of text c → i < length row
      → ReadTo text from (i + 1) (set row i x) d
  unfolding numbers_of
  row_more {row} {i} {x} {c} {d} e f l =
      record {
        is = ap (λ k. numbers_of text k from) (add-one i)
            ∙ rw (e.is, ← f) (ap (λ xs. got xs d) (sym (ap (λ k. take k (set row i x)) (add-one i) ∙ take-suc-set row i x l)));
        within = number_within e.within (sym f);
      }

  one_stops : {row : List ℕ} {i : ℕ} {c : Cursor} {t : Report} → ReadTo text from i row c → stop t ≡ number_of text c → numbers_of text (suc i) from ≡ stop t
  unfolding numbers_of
  one_stops e f = rw (e.is, ← f)

  pub row_stops : {row : List ℕ} {i : ℕ} {c : Cursor} {t : Report} (n : ℕ) → ReadTo text from i row c → stop t ≡ number_of text c → i < n
      → stop t ≡ numbers_of text n from
  row_stops {i = i} n e f l =
      let there : n - suc i + suc i ≡ n = omega arith in
      sym (ap (λ k. numbers_of text k from) (sym there) ∙ stays text from (suc i) (n - suc i) (one_stops e f))

  pub row_read : {row : List ℕ} {i n : ℕ} {c : Cursor} → ReadTo text from i row c → i ≡ length row → length row ≡ n → got row c ≡ numbers_of text n from
  row_read {row} {i} {n} {c} e f h =
      sym (ap (λ k. numbers_of text k from) (sym (f ∙ h)) ∙ e.is ∙ ap (λ xs. got xs c) (take_all i row (omega arith)))

numbers_last : {text : List ℕ} {d : Cursor} {xs : List ℕ} (g : Got (List ℕ)) → ((ys : List ℕ) (c : Cursor) → g ≡ got ys c → CursorWithin text c)
    → onward g (λ ys c. onward (number_of text c) (λ x e. got (ys ++ (x ∷ [])) e)) ≡ got xs d → CursorWithin text d
numbers_last (stop t) ok h = absurd (let z : ◌≡◌ {A = ℕ} 0 1 = cc in omega arith)
numbers_last {text} {d} {xs} (got ys c) ok h = by (number_of text c) refl h
  where
    by : (g : Got ℕ) → number_of text c ≡ g → onward g (λ x e. got (ys ++ (x ∷ [])) e) ≡ got xs d → CursorWithin text d
    by (stop t) e k = absurd (let z : ◌≡◌ {A = ℕ} 0 1 = cc in omega arith)
    by (got x e) f k = let q : e ≡ d = cc in subst (CursorWithin text) q (number_within (ok ys c refl) f)

pub numbers_within : {text : List ℕ} {from d : Cursor} {xs : List ℕ} (n : ℕ) → CursorWithin text from → numbers_of text n from ≡ got xs d → CursorWithin text d
unfolding numbers_of
numbers_within {text} {from} {d} zero w e = let q : from ≡ d = cc in subst (CursorWithin text) q w
numbers_within {text} {from} (suc n) w e = numbers_last (numbers_of text n from) (λ ys c f. numbers_within n w f) e
