-- Text written after text into memory. Assumes nothing.
use Prim.Native.Nat.{ℕ, suc, ◌+◌, ◌-◌, ◌≤◌, ◌<◌}
use native.Mathlib.Omega.{arith}
use native.Mathlib.Numerals.{add-one}
use mathlib.Core.Path.{◌≡◌, refl, sym, ap, ap₂, ◌∙◌, subst}
use mathlib.Core.List.{List, [], ◌∷◌, ◌++◌, append-nil, append_assoc}
use lib.ListN.{length, take, drop, replicate, set, length-append, length-drop, length-set, take-append-drop}
use lib.Seq.{length-take-le, take_at, drop_at, drop-drop, set_split, append_snoc}
use Rattle.sheet_text.specs.declared.Text.{Text}
use Rattle.sheet_text.specs.Text.{over_zeros, laid_out}
use Rattle.sheet_text.specs.Putting.{PutText}

pub puts_none : (l : List ℕ) (at : ℕ) → at ≤ length l → PutText l at [] at l
puts_none l at h =
    record { is = sym (ap (λ x. x ++ drop at l) (append-nil (take at l)) ∙ take-append-drop at l); ends = omega arith; room = h; same = refl }

pub puts_byte : (l : List ℕ) (at b : ℕ) → at < length l → PutText l at (b ∷ []) (at + 1) (set l at b)
puts_byte l at b h =
    record {
      is = set_split l at b h ∙ sym (append_snoc (take at l) b (drop (suc at) l)) ∙ ap (λ n. take at l ++ (b ∷ []) ++ drop n l) (sym (add-one at));
      ends = omega arith;
      room = omega arith;
      same = length-set l at b;
    }

pub puts_then : {l m n : List ℕ} {at mid end : ℕ} {a b : List ℕ} → PutText l at a mid m → PutText m mid b end n → PutText l at (a ++ b) end n
puts_then {l} {m} {n} {at} {mid} {end} {a} {b} p q =
    record {
      is = q.is ∙ ap₂ (λ x y. x ++ b ++ y) front rest ∙ ap (λ x. x ++ drop end l) (append_assoc (take at l) a b);
      ends = simp length-append (omega (arith, p.ends, q.ends));
      room = omega (arith, p.same, q.room);
      same = q.same ∙ p.same;
    }
  where
    long : length (take at l ++ a) ≡ mid
    long = simp length-append (omega (arith, p.ends, length-take-le at l (omega (arith, p.ends, p.room))))

    front : take mid m ≡ take at l ++ a
    front = ap (take mid) p.is ∙ take_at (take at l ++ a) (drop mid l) mid long

    rest : drop end m ≡ drop end l
    rest =
        ap (λ e. drop e m) q.ends ∙ sym (drop-drop (length b) mid m)
        ∙ ap (drop (length b)) (ap (drop mid) p.is ∙ drop_at (take at l ++ a) (drop mid l) mid long)
        ∙ drop-drop (length b) mid l ∙ ap (λ e. drop e l) (sym q.ends)

pub puts_as : {l m : List ℕ} {at end end' : ℕ} {a b : List ℕ} → PutText l at a end m → a ≡ b → end ≡ end' → PutText l at b end' m
puts_as {l} {m} {at} {end} {end'} {a} {b} p e f = subst (λ x. PutText l at b x m) f (subst (λ x. PutText l at x end m) e p)

-- zeros filled from the first place on
pub puts_over_zeros : (room : ℕ) {bytes : List ℕ} {end : ℕ} {text : List ℕ} → PutText (replicate room 0) 0 text end bytes
    → (bytes ≡ over_zeros room text) × (end ≡ length text)
unfolding over_zeros
puts_over_zeros room {bytes} {end} {text} p =
    let e : end ≡ length text = omega (arith, p.ends) in
    (p.is ∙ ap (λ n. text ++ drop n (replicate room 0)) e, e)

-- such bytes, and where the text ends
abbrev with_end : List ℕ → ℕ → Text
with_end bytes end = record { bytes = bytes; length = end }

pub puts_text : {bytes : List ℕ} {end : ℕ} {text : List ℕ} → PutText (replicate 2855 0) 0 text end bytes → with_end bytes end ≡ laid_out text
unfolding laid_out
puts_text p = let q = puts_over_zeros 2855 p in ap₂ with_end q.0 q.1

-- a text copied into its place
pub puts_part : {l text part : List ℕ} {at end : ℕ} → end ≡ at + length text → end ≤ length l → part ≡ text
    → PutText l at text end (take at l ++ (part ++ drop (end - at) (drop at l)))
puts_part {l} {text} {part} {at} {end} e fits f = record { is = is; ends = e; room = fits; same = ap length is ∙ long }
  where
    rest : drop (end - at) (drop at l) ≡ drop end l
    rest = let whole : at + (end - at) ≡ end = omega arith in drop-drop (end - at) at l ∙ ap (λ n. drop n l) whole

    is : take at l ++ (part ++ drop (end - at) (drop at l)) ≡ take at l ++ text ++ drop end l
    is = ap₂ (λ x y. take at l ++ (x ++ y)) f rest ∙ sym (append_assoc (take at l) text (drop end l))

    long : length (take at l ++ text ++ drop end l) ≡ length l
    long = simp (length-append, length-drop) (omega (arith, length-take-le at l (omega arith)))
