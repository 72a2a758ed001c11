-- The code's cut out of four bytes is the field, and what a caller knows of a field that was read. Assumes nothing.
use Prim.Native.Nat.{ℕ, ◌+◌, ◌-◌, ◌*◌, ◌/◌, ◌%◌, ◌^◌, ◌≤◌, ◌<◌}
use native.Mathlib.Nat.{div-one}
use native.Mathlib.Omega.{arith}
use mathlib.Core.Path.{◌≡◌, sym, ap, ap₂, ◌∙◌, subst}
use mathlib.Core.Bool.{Bool, true, false, not}
use mathlib.Core.List.{List}
use lib.Dec.{leb, eqb}
use lib.ListN.{length, get_or}
use lib.Pow.{field, low, shl-shr, shr-shr}
use borrow.Author.Tests.{leb-true, leb-false, not-true, not-false}
use Rattle.std.specs.Prelude.{Some, None}
use Rattle.file_format.specs.Bits.{binary, bit_at, bits_at}
use Rattle.file_format.specs.Theorems.{Bytes}
use Rattle.file_format.proofs.BitLaws.{bits_at_small, binary_split, byte_at, window}
use Rattle.bit_reader.specs.declared.Place.{Place}
use Rattle.bit_reader.specs.Fields.{BitsRead, word_at, FieldGot, FieldRead}

-- ---- reading

-- of 32 bits, b are moved out in front and those past the next w at the back
cut : (x b w : ℕ) → b + w ≤ 32 → x * 2 ^ b % 4294967296 / 2 ^ (32 - w) ≡ x / 2 ^ (32 - b - w) % 2 ^ w
cut x b w h =
    let all : 32 ≡ w + (32 - w) = omega arith in
    let back : 32 - w ≡ b + (32 - b - w) = omega arith in
    ap (λ k. x * 2 ^ b % 2 ^ k / 2 ^ (32 - w)) all
    ∙ field (x * 2 ^ b) w (32 - w)
    ∙ ap (λ y. y % 2 ^ w) (ap (λ k. x * 2 ^ b / 2 ^ k) back ∙ sym (shr-shr (x * 2 ^ b) b (32 - b - w)) ∙ ap (λ y. y / 2 ^ (32 - b - w)) (shl-shr x b))

module _ (s : List ℕ) {n : ℕ} (p : Place) (h : BitsRead p n) where
  -- the number in the field, cut out of the four bytes from the place's on
  pub field_value : (w : ℕ) → w ≤ 20 → Bytes s → {x : ℕ} → x ≡ word_at s p.byte → x * 2 ^ p.bit % 4294967296 / 2 ^ (32 - w) ≡ bits_at s n w
  field_value w narrow bytes {x} e =
      cut x p.bit w (omega (arith, h.below))
      ∙ ap₂ (λ y z. y / 2 ^ (32 - z - w) % 2 ^ w) (e ∙ ap (word_at s) byte_is) bit_is
      ∙ sym (window s bytes n w (omega (arith, narrow)))
    where
      byte_is : p.byte ≡ n / 8
      byte_is = omega (arith, h.below, h.count)

      bit_is : p.bit ≡ n % 8
      bit_is = omega (arith, h.below, h.count)

-- ---- the last bits

-- no bits form 0
pub no_bits : (s : List ℕ) (at w : ℕ) → w ≡ 0 → true ≡ eqb (bits_at s at w) 0
unfolding binary
no_bits s at w e = sym (ap (λ x. eqb (binary (bit_at s) at x) 0) e)

-- the last w bits are those of the last byte, x
pub last_bits : (s : List ℕ) → Bytes s → (w : ℕ) → 1 ≤ length s → w ≤ 8 → (x : ℕ) → x ≡ get_or s (length s - 1) 0
    → x * 2 ^ (32 - w) % 4294967296 / 2 ^ (32 - w) ≡ bits_at s (8 * length s - w) w
last_bits s bytes w one narrow x e =
    let none : 32 - (32 - w) - w ≡ 0 = omega arith in
    cut x (32 - w) w (omega arith)
    ∙ ap (λ k. x / 2 ^ k % 2 ^ w) none ∙ ap (λ y. y % 2 ^ w) (div-one x ∙ in_two)
    ∙ low (bits_at s start (8 - w)) w (bits_at_small s (start + (8 - w)) w) ∙ ap (λ p. bits_at s p w) from
  where
    -- where the last byte begins
    start : ℕ
    start = 8 * (length s - 1)

    -- its bits in front of the last w, and those
    in_two : x ≡ bits_at s start (8 - w) * 2 ^ w + bits_at s (start + (8 - w)) w
    in_two =
        let eight : 8 ≡ 8 - w + w = omega arith in
        e ∙ sym (byte_at s bytes (length s - 1)) ∙ ap (bits_at s start) eight ∙ binary_split (bit_at s) start (8 - w) w

    from : start + (8 - w) ≡ 8 * length s - w
    from = omega arith

-- ---- the length

-- what the test of the length told
module _ (s : List ℕ) (m : ℕ) {r : Bool} (e : r ≡ leb m (8 * length s)) where
  pub inside : not r ≡ false → m ≤ 8 * length s
  inside q = leb-true m (8 * length s) (sym e ∙ not-false r q)

  pub outside : not r ≡ true → 8 * length s < m
  outside q = leb-false m (8 * length s) (sym e ∙ not-true r q)

-- ---- what was read

-- the same number of bits, written otherwise
pub bits_same : {p : Place} {m n : ℕ} → BitsRead p m → m ≡ n → BitsRead p n
bits_same r e = record { below = r.below; count = r.count ∙ e }

module _ {s : List ℕ} {n w v : ℕ} where
  pub field_small : FieldGot s n w v → v < 2 ^ w
  field_small g = subst (λ x. x < 2 ^ w) (sym g.is) (bits_at_small s n w)

  -- the answer is the field
  pub field_read : FieldGot s n w v → FieldRead s n w (Some v)
  field_read g = record { got = λ e. same e; ends = λ e. absurd (never e) }
    where
      same : {x : ℕ} → Some v ≡ Some x → FieldGot s n w x
      same {x} e = let i : v ≡ x = cc in subst (FieldGot s n w) i g

      never : Some v ≡ None → ⊥
      never e = let z : ◌≡◌ {A = ℕ} 0 1 = cc in omega arith

-- there is none
pub none_read : (s : List ℕ) (n w : ℕ) → 8 * length s < n + w → FieldRead s n w None
none_read s n w h = record { got = λ e. absurd (never e); ends = λ _. h }
  where
    never : {x : ℕ} → None ≡ Some x → ⊥
    never e = let z : ◌≡◌ {A = ℕ} 0 1 = cc in omega arith
