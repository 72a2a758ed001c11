-- One pair of the text: what the code finds is the step that is defined, and the place after a pair is two bytes further on at least. Assumes nothing.
use Prim.Native.Nat.{ℕ, ◌+◌, ◌≤◌}
use native.Mathlib.Omega.{arith}
use mathlib.Core.Path.{◌≡◌, refl, sym, ap, ◌∙◌, subst}
use mathlib.Core.Bool.{Bool, true, false, cond}
use mathlib.Core.List.{List}
use lib.Dec.{eqb}
use borrow.Author.Tests.{eq-eqb, ne_eqb}
use Rattle.std.specs.Prelude.{Result, Ok, Err, Option, Some}
use Rattle.narrowing.specs.Narrowing.{narrowed}
use Rattle.text_words.specs.declared.Cursor.{Cursor}
use Rattle.text_words.specs.declared.Word.{Word}
use Rattle.text_words.specs.declared.Word.TheVariants as WordCase
use Rattle.text_words.specs.declared.WordError.{WordError}
use Rattle.text_words.specs.Words.{next_of, CursorWithin}
use Rattle.text_words.proofs.WordLaws.{next_within, next_further}
use Rattle.merge_text.specs.declared.Fault.TheVariants as FaultCase
use Rattle.merge_text.specs.declared.pairs.Pair.{Pair}
use Rattle.merge_text.specs.declared.pairs.WrongLine.{WrongLine}
use Rattle.merge_text.specs.Pairs.{wrong_at, fault_of, on_line, pair_from, step_from, step_of}

-- ---- on a line

module _ (line l : ℕ) (s : Result (Option Pair) WrongLine) where
  pub line_same : l ≡ line → s ≡ on_line line l s
  line_same e = rw (eq-eqb l line e)

  pub line_other : (l ≡ line → ⊥) → wrong_at line FaultCase.Missing ≡ on_line line l s
  line_other e = rw (ne_eqb l line e)

-- ---- as the code finds it

-- the second word
module _ (i line : ℕ) (text : List ℕ) (c : Cursor) {w v : Result Word WordError} {r : Result (Option Pair) WrongLine} (e : w ≡ next_of text c) (f : w ≡ v) where
  pub pair_is : r ≡ pair_from i line v → r ≡ pair_from i line (next_of text c)
  pair_is h = h ∙ ap (pair_from i line) (sym f ∙ e)

-- two numbers, each narrowed
pub pair_numbers : (i line j : ℕ) (c : Cursor) {x y : ℕ} {r : Result (Option Pair) WrongLine} → x ≡ narrowed i → y ≡ narrowed j
    → r ≡ on_line line c.line (Ok (Some (record { first = x; second = y; after = c })))
    → r ≡ pair_from i line (Ok (WordCase.Number j c))
pair_numbers i line j c p q h = h ∙ (λ k. on_line line c.line (Ok (Some (record { first = p k; second = q k; after = c }))))

-- the first word
module _ (text : List ℕ) (last : ℕ) (c : Cursor) {w v : Result Word WordError} {r : Result (Option Pair) WrongLine} (e : w ≡ next_of text c) (f : w ≡ v) where
  pub step_is : r ≡ step_from text last v → r ≡ step_of text last c
  unfolding step_of
  step_is h = h ∙ ap (step_from text last) (sym f ∙ e)

-- a number on the last pair's line, or on a later one
module _ (text : List ℕ) (last i : ℕ) (c : Cursor) where
  pub number_many : c.line ≡ last → wrong_at last FaultCase.TooMany ≡ step_from text last (Ok (WordCase.Number i c))
  number_many e = rw (eq-eqb c.line last e)

  pub number_begins : {r : Result (Option Pair) WrongLine} → (c.line ≡ last → ⊥) → r ≡ pair_from i c.line (next_of text c)
      → r ≡ step_from text last (Ok (WordCase.Number i c))
  number_begins e h = rw (ne_eqb c.line last e) h

-- ---- the place after a pair

-- a place of the text, so many bytes past another one
pub record After (text : List ℕ) (bytes : ℕ) (c d : Cursor) : Type 0 where
  pub within : CursorWithin text d
  pub past : c.at + bytes ≤ d.at

module _ {text : List ℕ} {p : Pair} where
  -- of the second number
  second_after : (x line : ℕ) (c : Cursor) → CursorWithin text c
      → pair_from x line (next_of text c) ≡ Ok (Some p) → After text 1 c p.after
  second_after x line c W = by (next_of text c) refl
    where
      on : (t : Bool) (y : ℕ) (g : Cursor) → next_of text c ≡ Ok (WordCase.Number y g)
          → cond t (Ok (Some (record { first = narrowed x; second = narrowed y; after = g }))) (wrong_at line FaultCase.Missing) ≡ Ok (Some p)
          → After text 1 c p.after
      on true y g q h =
          let same : g ≡ p.after = cc in
          subst (After text 1 c) same (record { within = next_within W q; past = omega (arith, next_further W q) })
      on false y g q h = absurd (let z : ◌≡◌ {A = ℕ} 0 1 = cc in omega arith)

      none : (t : Bool) (s : Result (Option Pair) WrongLine) → (s ≡ Ok (Some p) → ⊥) → cond t s (wrong_at line FaultCase.Missing) ≡ Ok (Some p) → ⊥
      none true s other h = other h
      none false s other h = let z : ◌≡◌ {A = ℕ} 0 1 = cc in omega arith

      by : (w : Result Word WordError) → next_of text c ≡ w → pair_from x line w ≡ Ok (Some p) → After text 1 c p.after
      by (Ok (WordCase.Number y g)) q h = on (eqb g.line line) y g q h
      by (Ok (WordCase.End l)) q h = absurd (let z : ◌≡◌ {A = ℕ} 0 1 = cc in omega arith)
      by (Err e) q h =
          absurd (none (eqb e.line line) (wrong_at line (fault_of e.why)) (λ f. let z : ◌≡◌ {A = ℕ} 0 1 = cc in omega arith) h)

  -- of both
  pub pair_after : (last : ℕ) (c : Cursor) → CursorWithin text c → step_of text last c ≡ Ok (Some p) → After text 2 c p.after
  unfolding step_of
  pair_after last c W = by (next_of text c) refl
    where
      on : (t : Bool) (x : ℕ) (f : Cursor) → next_of text c ≡ Ok (WordCase.Number x f)
          → cond t (wrong_at last FaultCase.TooMany) (pair_from x f.line (next_of text f)) ≡ Ok (Some p) → After text 2 c p.after
      on true x f q h = absurd (let z : ◌≡◌ {A = ℕ} 0 1 = cc in omega arith)
      on false x f q h =
          let A = second_after x f.line f (next_within W q) h in record { within = A.within; past = omega (arith, A.past, next_further W q) }

      by : (w : Result Word WordError) → next_of text c ≡ w → step_from text last w ≡ Ok (Some p) → After text 2 c p.after
      by (Ok (WordCase.Number x f)) q h = on (eqb f.line last) x f q h
      by (Ok (WordCase.End l)) q h = absurd (let z : ◌≡◌ {A = ℕ} 0 1 = cc in omega arith)
      by (Err e) q h = absurd (let z : ◌≡◌ {A = ℕ} 0 1 = cc in omega arith)
