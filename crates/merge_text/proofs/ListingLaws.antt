-- Pair after pair to the text's end. Assumes nothing.
use Prim.Native.Nat.{ℕ, zero, suc, ◌+◌, ◌-◌, ◌*◌, ◌≤◌, ◌<◌}
use native.Mathlib.Nat.{zero-add, suc-add}
use native.Mathlib.Numerals.{add-one}
use native.Mathlib.Omega.{arith}
use mathlib.Core.Path.{◌≡◌, refl, sym, ap, ◌∙◌}
use mathlib.Core.List.{List, [], ◌∷◌, ◌++◌}
use lib.ListN.{length, take, set}
use lib.Seq.{take-suc-set}
use borrow.Author.Tests.{lt-ltb, le-ltb}
use Rattle.text_words.specs.declared.Cursor.{Cursor}
use Rattle.text_words.specs.Words.{newlines, CursorWithin}
use Rattle.merge_text.specs.declared.Fault.TheVariants as FaultCase
use Rattle.std.specs.Prelude.{Result, Ok, Err, Option, Some, None}
use Rattle.merge_text.specs.declared.pairs.Pair.{Pair}
use Rattle.merge_text.specs.declared.pairs.WrongLine.{WrongLine}
use Rattle.merge_text.specs.Pairs.{step_of, Pairs, Reading, going, stopped, taken, further, steps_of, pairs_of}
use Rattle.merge_text.specs.Steps.{listed_of, Lists}
use Rattle.merge_text.proofs.PairLaws.{After, pair_after}

-- the first n numbers of two lists
abbrev pub front_of : ℕ → List ℕ → List ℕ → Pairs
front_of n firsts seconds = record { firsts = take n firsts; seconds = take n seconds }

-- after n steps, with as many pairs in the lists, the text stands at this place
pub record Listing (text : List ℕ) (n : ℕ) (firsts seconds : List ℕ) (last : ℕ) (c : Cursor) : Type 0 where
  pub within : CursorWithin text c
  pub few : 2 * n ≤ c.at
  pub is : steps_of text n ≡ going (front_of n firsts seconds) last c

-- no more steps after the end
steps_over : (text : List ℕ) {t : Reading} (m n : ℕ) → further text t ≡ t → steps_of text m ≡ t → steps_of text (n + m) ≡ t
unfolding steps_of
steps_over text m zero over e = ap (steps_of text) (zero-add m) ∙ e
steps_over text m (suc n) over e = ap (steps_of text) (suc-add n m) ∙ ap (further text) (steps_over text m n over e) ∙ over

module _ {text firsts seconds : List ℕ} where
  pub text_long : {n : ℕ} → 131072 < length text → n ≡ newlines text → Lists text (Err (record { line = n; fault = FaultCase.TooLong })) firsts seconds
  unfolding pairs_of
  text_long {n} h e =
      record {
        is = ap (λ l. stopped l FaultCase.TooLong) e ∙ sym (rw (lt-ltb 131072 (length text) h));
        few = λ m q. absurd (let z : ◌≡◌ {A = ℕ} 0 1 = cc in omega arith);
      }

  pub listing_none : length text ≤ 131072 → Listing text 0 firsts seconds 0 (record { at = 0; line = 1 })
  unfolding steps_of
  listing_none h = record { within = record { short = h; inside = omega arith; line_low = omega arith }; few = omega arith; is = refl }

module _ {text : List ℕ} {n : ℕ} {firsts seconds : List ℕ} {last : ℕ} {c : Cursor} {s : Result (Option Pair) WrongLine}
    (L : Listing text n firsts seconds last c) (e : s ≡ step_of text last c) where
  next_step : steps_of text (suc n) ≡ taken (front_of n firsts seconds) s
  unfolding steps_of
  next_step = ap (further text) L.is ∙ ap (taken (front_of n firsts seconds)) (sym e)

  -- a step that ends the reading: the steps that are left change nothing
  steps_end : {t : Reading} → further text t ≡ t → taken (front_of n firsts seconds) s ≡ t → t ≡ pairs_of text
  unfolding pairs_of
  steps_end over h =
      let W = L.within in
      let most : length text - n + suc n ≡ suc (length text) = omega (arith, L.few, W.inside) in
      sym (rw (le-ltb 131072 (length text) W.short)
      (ap (steps_of text) (sym most) ∙ steps_over text (suc n) (length text - n) over (next_step ∙ h)))

  pub listing_ends : s ≡ Ok None → Lists text (Ok n) firsts seconds
  listing_ends h =
      record {
        is = steps_end refl (ap (taken (front_of n firsts seconds)) h);
        few = λ m q. let same : n ≡ m = cc in omega (arith, L.few, L.within.inside, L.within.short);
      }

  pub listing_stops : {w : WrongLine} {r : Result ℕ WrongLine} → s ≡ Err w → r ≡ Err w → Lists text r firsts seconds
  listing_stops h same =
      record {
        is = ap (λ k. listed_of k firsts seconds) same ∙ steps_end refl (ap (taken (front_of n firsts seconds)) h);
        few = λ m q. absurd (let z : ◌≡◌ {A = ℕ} 0 1 = cc in omega arith);
      }

  module _ {p : Pair} (h : s ≡ Ok (Some p)) where
    pub listing_after : After text 2 c p.after
    listing_after = pair_after last c L.within (sym e ∙ h)

    -- a place in a list of 65,536
    pub listing_few : n < 65536
    listing_few = let A = listing_after in omega (arith, A.past, L.few, A.within.inside, A.within.short)

    one_more : (xs : List ℕ) (x : ℕ) → n < length xs → take n xs ++ (x ∷ []) ≡ take (n + 1) (set xs n x)
    one_more xs x l = sym (ap (λ k. take k (set xs n x)) (add-one n) ∙ take-suc-set xs n x l)

    pub listing_more : n < length firsts → n < length seconds → Listing text (n + 1) (set firsts n p.first) (set seconds n p.second) p.after.line
        p.after
    listing_more a b =
        let A = listing_after in
        let f = one_more firsts p.first a in
        let g = one_more seconds p.second b in
        record {
          within = A.within;
          few = omega (arith, A.past, L.few);
          is = ap (steps_of text) (add-one n) ∙ next_step ∙ ap (taken (front_of n firsts seconds)) h
              ∙ (λ k. going (record { firsts = f k; seconds = g k }) p.after.line p.after);
        }
