-- Laws of bits, numbers and bytes: what was written is read, and what was read is written again. Assumes nothing.
use Prim.Native.Nat.{ℕ, zero, suc, ◌+◌, ◌-◌, ◌*◌, ◌/◌, ◌%◌, ◌^◌, ◌≤◌, ◌<◌}
use native.Mathlib.Nat.{not-suc-le-zero, mod-lt, zero-lt-suc, pow-suc, div-div-eq-div-mul, mul_comm, div-one, zero-div, mul_assoc, add-zero, add-suc}
use native.Mathlib.Omega.{arith}
use mathlib.Core.Path.{◌≡◌, refl, sym, ap, ap₂, ◌∙◌, subst}
use mathlib.Core.Logic.{⊎_elim}
use mathlib.Core.List.{List, [], ◌∷◌, ◌++◌, flat_map}
use lib.Dec.{lit≤}
use lib.ListN.{length, get_or, length-append, get_or-append, get_or-eq_default}
use lib.Pow.{high, low}
use lib.Seq.{get_or-append-add, get_or_at}
use Rattle.lists.proofs.Tests.{split}
use Rattle.lists.proofs.Tables.{length_tabulate, get_d_tabulate, tabulate_is}
use Rattle.file_format.specs.Bits.{binary, bit_at, bits_at, Field, bits_of, all_bits, pack, packed, Bits}
use Rattle.file_format.specs.Theorems.{Bytes}

-- ---- the number that bits form

pub binary_ext : (f g : ℕ → ℕ) (a b w : ℕ) → ((j : ℕ) → j < w → f (a + j) ≡ g (b + j)) → binary f a w ≡ binary g b w
unfolding binary
binary_ext f g a b zero h = refl
binary_ext f g a b (suc w) h = ap₂ (λ x y. x * 2 + y) (binary_ext f g a b w (λ j l. h j (omega arith))) (h w (omega arith))

pub binary_small : (f : ℕ → ℕ) → Bits f → (at w : ℕ) → binary f at w < 2 ^ w
unfolding binary
binary_small f h at zero = lit≤ tt
binary_small f h at (suc w) = rw (pow-suc 2 w) (omega (arith, binary_small f h at w, h (at + w)))

-- the first u bits, and the w bits after them
pub binary_split : (f : ℕ → ℕ) (at u w : ℕ) → binary f at (u + w) ≡ binary f at u * 2 ^ w + binary f (at + u) w
unfolding binary
binary_split f at u zero = let e : binary f at (u + 0) ≡ binary f at u = ap (binary f at) (add-zero u) in omega arith
binary_split f at u (suc w) =
    let r = binary_split f at u w in
    let e : binary f at (u + suc w) ≡ binary f at (suc (u + w)) = ap (binary f at) (add-suc u w) in
    let p : binary f at u * 2 ^ suc w ≡ binary f at u * 2 ^ w * 2 = ap (λ x. binary f at u * x) (pow-suc 2 w) ∙ sym (mul_assoc (binary f at u) (2 ^ w) 2) in
    let q : f (at + (u + w)) ≡ f (at + u + w) = ap f (omega arith) in
    omega arith

-- an index below w + 1 is below w, or w
below : (P : ℕ → Type 0) (w j : ℕ) → j < suc w → (j < w → P j) → P w → P j
below P w j l f g = ⊎_elim f (λ k. let e : w ≡ j = omega arith in subst P e g) (split j w)

-- a number is 0 exactly where its bits are
pub binary_zero : (f : ℕ → ℕ) (at w : ℕ) → ((j : ℕ) → j < w → f (at + j) ≡ 0) → binary f at w ≡ 0
unfolding binary
binary_zero f at zero h = refl
binary_zero f at (suc w) h = omega (arith, binary_zero f at w (λ j l. h j (omega arith)), h w (omega arith))

pub zero_binary : (f : ℕ → ℕ) (at w : ℕ) → binary f at w ≡ 0 → (j : ℕ) → j < w → f (at + j) ≡ 0
unfolding binary
zero_binary f at zero e j l = absurd (not-suc-le-zero l)
zero_binary f at (suc w) e j l = below (λ i. f (at + i) ≡ 0) w j l (λ m. zero_binary f at w (omega arith) j m) (omega arith)

-- ---- the bits of a number

pub length_bits_of : (w v : ℕ) → length (bits_of w v) ≡ w
length_bits_of zero v = refl
length_bits_of (suc w) v = length-append (bits_of w (v / 2)) (v % 2 ∷ []) ∙ omega (arith, length_bits_of w (v / 2))

-- the bits of v before its last are those of v / 2
bits_of_front : (w v j : ℕ) → j < w → get_or (bits_of (suc w) v) j 0 ≡ get_or (bits_of w (v / 2)) j 0
bits_of_front w v j l = get_or-append (bits_of w (v / 2)) (v % 2 ∷ []) 0 j (omega (arith, length_bits_of w (v / 2)))

bits_of_last : (w v : ℕ) → get_or (bits_of (suc w) v) w 0 ≡ v % 2
bits_of_last w v = get_or_at (bits_of w (v / 2)) (v % 2) [] 0 w (length_bits_of w (v / 2))

-- the bits of the number that bits form are those bits
pub binary_bits : (f : ℕ → ℕ) → Bits f → (at w j : ℕ) → j < w → get_or (bits_of w (binary f at w)) j 0 ≡ f (at + j)
unfolding binary
binary_bits f h at zero j l = absurd (not-suc-le-zero l)
binary_bits f h at (suc w) j l =
    below (λ i. get_or (bits_of (suc w) (binary f at (suc w))) i 0 ≡ f (at + i)) w j l
    (λ m. bits_of_front w (binary f at (suc w)) j m ∙ ap (λ v. get_or (bits_of w v) j 0) front ∙ binary_bits f h at w j m)
    (bits_of_last w (binary f at (suc w)) ∙ omega (arith, h (at + w)))
  where
    front : binary f at (suc w) / 2 ≡ binary f at w
    front = omega (arith, h (at + w))

-- the number that the bits of v form is v
pub bits_binary : (w v : ℕ) → v < 2 ^ w → binary (λ p. get_or (bits_of w v) p 0) 0 w ≡ v
unfolding binary
bits_binary zero v l = omega arith
bits_binary (suc w) v l =
    let h : v < 2 ^ w * 2 = rw pow-suc at l in
    let r = bits_binary w (v / 2) (omega arith) in
    let e : binary (λ p. get_or (bits_of (suc w) v) p 0) 0 w ≡ binary (λ p. get_or (bits_of w (v / 2)) p 0) 0 w =
    binary_ext (λ p. get_or (bits_of (suc w) v) p 0) (λ p. get_or (bits_of w (v / 2)) p 0) 0 0 w (λ j m. bits_of_front w v (0 + j) (omega arith)) in
    let z : get_or (bits_of (suc w) v) (0 + w) 0 ≡ v % 2 = ap (λ i. get_or (bits_of (suc w) v) i 0) (omega arith) ∙ bits_of_last w v in
    omega arith

-- bit j of w bits, by a quotient
pub bit_of : (w v j : ℕ) → j < w → get_or (bits_of w v) j 0 ≡ v / 2 ^ (w - 1 - j) % 2
bit_of zero v j l = absurd (not-suc-le-zero l)
bit_of (suc w) v j l =
    below (λ i. get_or (bits_of (suc w) v) i 0 ≡ v / 2 ^ (suc w - 1 - i) % 2) w j l
    (λ m. bits_of_front w v j m ∙ bit_of w (v / 2) j m
    ∙ ap (λ x. x % 2) (div-div-eq-div-mul v 2 (2 ^ (w - 1 - j))
    ∙ ap (λ x. v / x) (mul_comm 2 (2 ^ (w - 1 - j)) ∙ sym (pow-suc 2 (w - 1 - j)) ∙ ap (λ x. 2 ^ x) (shift m))))
    (bits_of_last w v ∙ ap (λ x. x % 2) (sym (div-one v)) ∙ ap (λ x. v / 2 ^ x % 2) last)
  where
    shift : j < w → suc (w - 1 - j) ≡ suc w - 1 - j
    shift m = omega arith

    last : 0 ≡ suc w - 1 - w
    last = omega arith

pub append_bit : (xs ys : List ℕ) → Bits (λ p. get_or xs p 0) → Bits (λ p. get_or ys p 0) → Bits (λ p. get_or (xs ++ ys) p 0)
append_bit [] ys a b p = b p
append_bit (x ∷ xs) ys a b zero = a 0
append_bit (x ∷ xs) ys a b (suc p) = append_bit xs ys (λ q. a (suc q)) b p

pub bits_of_bit : (w v : ℕ) → Bits (λ p. get_or (bits_of w v) p 0)
bits_of_bit zero v p = lit≤ tt
bits_of_bit (suc w) v p = append_bit (bits_of w (v / 2)) (v % 2 ∷ []) (bits_of_bit w (v / 2)) one p
  where
    one : Bits (λ q. get_or (v % 2 ∷ []) q 0)
    one zero = mod-lt v (zero-lt-suc 1)
    one (suc q) = lit≤ tt

-- ---- bytes

pub bit_at_bit : (s : List ℕ) → Bits (bit_at s)
bit_at_bit s p = mod-lt _ (zero-lt-suc 1)

pub bits_at_small : (s : List ℕ) (at w : ℕ) → bits_at s at w < 2 ^ w
bits_at_small s at w = binary_small (bit_at s) (bit_at_bit s) at w

-- bit j of byte i
pub bit_at_of : (s : List ℕ) (i j : ℕ) → j < 8 → bit_at s (8 * i + j) ≡ get_or (bits_of 8 (get_or s i 0)) j 0
bit_at_of s i j l =
    let e : (8 * i + j) / 8 ≡ i = omega arith in
    let d : 7 - (8 * i + j) % 8 ≡ 8 - 1 - j = omega arith in
    ap₂ (λ x y. get_or s x 0 / 2 ^ y % 2) e d ∙ sym (bit_of 8 (get_or s i 0) j l)

-- past the end every bit is 0
pub bit_at_past : (s : List ℕ) (p : ℕ) → 8 * length s ≤ p → bit_at s p ≡ 0
bit_at_past s p l =
    ap (λ x. x / 2 ^ (7 - p % 8) % 2) (get_or-eq_default s 0 (omega arith)) ∙ ap (λ x. x % 2) (zero-div (2 ^ (7 - p % 8)))

-- the eight bits of byte i form it
pub byte_at : (s : List ℕ) → Bytes s → (i : ℕ) → bits_at s (8 * i) 8 ≡ get_or s i 0
byte_at s b i =
    binary_ext (bit_at s) (λ j. get_or (bits_of 8 (get_or s i 0)) j 0) (8 * i) 0 8
    (λ j l. let e : j ≡ 0 + j = omega arith in bit_at_of s i j l ∙ ap (λ z. get_or (bits_of 8 (get_or s i 0)) z 0) e)
    ∙ bits_binary 8 (get_or s i 0) (b i)

pub length_pack : (m : ℕ) (f : ℕ → ℕ) → length (pack m f) ≡ m
unfolding pack
length_pack m f = length_tabulate m (λ i. binary f (8 * i) 8)

pub pack_at : (m : ℕ) (f : ℕ → ℕ) (i : ℕ) → i < m → get_or (pack m f) i 0 ≡ binary f (8 * i) 8
unfolding pack
pack_at m f i l = get_d_tabulate m (λ i. binary f (8 * i) 8) i 0 l

pub pack_bytes : (m : ℕ) (f : ℕ → ℕ) → Bits f → Bytes (pack m f)
pack_bytes m f h i =
    ⊎_elim (λ l. rw (pack_at m f i l) (binary_small f h (8 * i) 8))
    (λ l. rw (get_or-eq_default (pack m f) 0 {n = i} (omega (arith, length_pack m f))) (lit≤ tt)) (split i m)

-- the bits of packed bytes
pub bit_pack : (m : ℕ) (f : ℕ → ℕ) → Bits f → (p : ℕ) → p < 8 * m → bit_at (pack m f) p ≡ f p
bit_pack m f h p l =
    let e : 8 * (p / 8) + p % 8 ≡ p = omega arith in
    ap (bit_at (pack m f)) (sym e)
    ∙ bit_at_of (pack m f) (p / 8) (p % 8) (omega arith)
    ∙ ap (λ x. get_or (bits_of 8 x) (p % 8) 0) (pack_at m f (p / 8) (omega arith))
    ∙ binary_bits f h (8 * (p / 8)) 8 (p % 8) (omega arith)
    ∙ ap f e

-- bytes are what their bits pack to
pub pack_bits : (s : List ℕ) → Bytes s → (f : ℕ → ℕ) → ((p : ℕ) → p < 8 * length s → f p ≡ bit_at s p) → pack (length s) f ≡ s
unfolding pack
pack_bits s b f h =
    tabulate_is (length s) (λ i. binary f (8 * i) 8) 0 s refl
    (λ i l. binary_ext f (bit_at s) (8 * i) (8 * i) 8 (λ j k. h (8 * i + j) (omega arith)) ∙ byte_at s b i)

-- a field that starts in byte at / 8 and ends in the third byte after it or before, cut out of the number that these four bytes form
pub window : (s : List ℕ) → Bytes s → (at w : ℕ) → at % 8 + w ≤ 32
    → bits_at s at w
    ≡ (get_or s (at / 8) 0 * 16777216 + get_or s (at / 8 + 1) 0 * 65536 + get_or s (at / 8 + 2) 0 * 256 + get_or s (at / 8 + 3) 0) / 2 ^
    (32 - at % 8 - w) % 2 ^ w
window s b at w l = sym (ap (λ x. x / 2 ^ rest % 2 ^ w) four ∙ ap (λ x. x % 2 ^ w) cut ∙ tail)
  where
    q : ℕ
    q = at / 8

    rest : ℕ
    rest = 32 - at % 8 - w

    f : ℕ → ℕ
    f = bit_at s

    -- one byte more
    next : (m : ℕ) → binary f (8 * q) (8 * m + 8) ≡ binary f (8 * q) (8 * m) * 256 + get_or s (q + m) 0
    next m =
        let e : 8 * q + 8 * m ≡ 8 * (q + m) = omega arith in
        binary_split f (8 * q) (8 * m) 8 ∙ ap (λ z. binary f (8 * q) (8 * m) * 256 + z) (ap (λ p. binary f p 8) e ∙ byte_at s b (q + m))

    four : get_or s q 0 * 16777216 + get_or s (q + 1) 0 * 65536 + get_or s (q + 2) 0 * 256 + get_or s (q + 3) 0 ≡ binary f (8 * q) (at % 8 + w + rest)
    four = let e : 32 ≡ at % 8 + w + rest = omega arith in omega (arith, byte_at s b q, next 1, next 2, next 3) ∙ ap (binary f (8 * q)) e

    cut : binary f (8 * q) (at % 8 + w + rest) / 2 ^ rest ≡ binary f (8 * q) (at % 8 + w)
    cut =
        ap (λ x. x / 2 ^ rest) (binary_split f (8 * q) (at % 8 + w) rest)
        ∙ high (binary f (8 * q) (at % 8 + w)) rest (bits_at_small s (8 * q + (at % 8 + w)) rest)

    tail : binary f (8 * q) (at % 8 + w) % 2 ^ w ≡ bits_at s at w
    tail =
        let e : 8 * q + at % 8 ≡ at = omega arith in
        ap (λ x. x % 2 ^ w) (binary_split f (8 * q) (at % 8) w)
        ∙ low (binary f (8 * q) (at % 8)) w (bits_at_small s (8 * q + at % 8) w)
        ∙ ap (λ p. binary f p w) e

-- ---- fields

-- the fields fs, one after the other from a position, hold what g reads there
abbrev pub Agrees : (ℕ → ℕ → ℕ) → ℕ → List Field → Type 0
Agrees g at [] = Unit {0}
Agrees g at (f ∷ fs) = (g at f.width ≡ f.value) × Agrees g (at + f.width) fs

-- each value fits its width
abbrev pub Small : List Field → Type 0
Small [] = Unit {0}
Small (f ∷ fs) = (f.value < 2 ^ f.width) × Small fs

abbrev pub total : List Field → ℕ
total [] = 0
total (f ∷ fs) = f.width + total fs

pub length_all_bits : (fs : List Field) → length (all_bits fs) ≡ total fs
unfolding all_bits flat_map
length_all_bits [] = refl
length_all_bits (f ∷ fs) =
    length-append (bits_of f.width f.value) (all_bits fs) ∙ ap₂ (λ a b. a + b) (length_bits_of f.width f.value) (length_all_bits fs)

pub all_bits_bit : (fs : List Field) → Bits (λ p. get_or (all_bits fs) p 0)
unfolding all_bits flat_map
all_bits_bit [] p = lit≤ tt
all_bits_bit (f ∷ fs) p = append_bit (bits_of f.width f.value) (all_bits fs) (bits_of_bit f.width f.value) (all_bits_bit fs) p

head_bit : (f : Field) (fs : List Field) (j : ℕ) → j < f.width → get_or (all_bits (f ∷ fs)) j 0 ≡ get_or (bits_of f.width f.value) j 0
unfolding all_bits flat_map
head_bit f fs j l = get_or-append (bits_of f.width f.value) (all_bits fs) 0 j (omega (arith, length_bits_of f.width f.value))

tail_bit : (f : Field) (fs : List Field) (j : ℕ) → get_or (all_bits (f ∷ fs)) (f.width + j) 0 ≡ get_or (all_bits fs) j 0
unfolding all_bits flat_map
tail_bit f fs j =
    ap (λ w. get_or (all_bits (f ∷ fs)) (w + j) 0) (sym (length_bits_of f.width f.value))
    ∙ get_or-append-add (bits_of f.width f.value) (all_bits fs) j 0

-- where the bits stand, the fields are read
agrees_of : (f : ℕ → ℕ) (at : ℕ) (fs : List Field) → Small fs → ((p : ℕ) → p < total fs → f (at + p) ≡ get_or (all_bits fs) p 0)
    → Agrees (binary f) at fs
agrees_of f at [] s h = tt
agrees_of f at (x ∷ fs) s h = (
  binary_ext f (λ p. get_or (bits_of x.width x.value) p 0) at 0 x.width
      (λ j l. h j (omega arith) ∙ head_bit x fs j l ∙ ap (λ i. get_or (bits_of x.width x.value) i 0) (omega arith))
      ∙ bits_binary x.width x.value s.0,
  agrees_of f (at + x.width) fs s.1 (λ p l. ap f (omega arith) ∙ h (x.width + p) (omega arith) ∙ tail_bit x fs p),
)

-- where the fields are read, the bits stand
of_agrees : (f : ℕ → ℕ) → Bits f → (at : ℕ) (fs : List Field) → Agrees (binary f) at fs
    → (p : ℕ) → p < total fs → f (at + p) ≡ get_or (all_bits fs) p 0
of_agrees f b at [] a p l = absurd (not-suc-le-zero l)
of_agrees f b at (x ∷ fs) a p l =
    ⊎_elim
    (λ k. sym (binary_bits f b at x.width p k) ∙ ap (λ v. get_or (bits_of x.width v) p 0) a.0 ∙ sym (head_bit x fs p k))
    (λ k. let e : x.width + (p - x.width) ≡ p = omega arith in
    let q : at + p ≡ at + x.width + (p - x.width) = omega arith in
    ap f q
    ∙ of_agrees f b (at + x.width) fs a.1 (p - x.width) (omega arith)
    ∙ sym (tail_bit x fs (p - x.width))
    ∙ ap (λ i. get_or (all_bits (x ∷ fs)) i 0) e)
    (split p x.width)

-- ---- the two laws of a packed file

module _ (fs : List Field) where
  pub packed_length : length (packed (all_bits fs)) ≡ (total fs + 7) / 8
  unfolding packed
  packed_length = length_pack ((length (all_bits fs) + 7) / 8) (λ p. get_or (all_bits fs) p 0) ∙ ap (λ n. (n + 7) / 8) (length_all_bits fs)

  pub packed_bytes : Bytes (packed (all_bits fs))
  unfolding packed
  packed_bytes = pack_bytes ((length (all_bits fs) + 7) / 8) (λ p. get_or (all_bits fs) p 0) (all_bits_bit fs)

  -- bit p of the file is bit p of the fields, and 0 past them
  pub packed_bit : (p : ℕ) → bit_at (packed (all_bits fs)) p ≡ get_or (all_bits fs) p 0
  unfolding packed
  packed_bit p =
      let m = (length (all_bits fs) + 7) / 8 in
      let n = length_pack m (λ p. get_or (all_bits fs) p 0) in
      ⊎_elim (λ l. bit_pack m (λ p. get_or (all_bits fs) p 0) (all_bits_bit fs) p l)
      (λ l. bit_at_past (packed (all_bits fs)) p (omega arith) ∙ sym (get_or-eq_default (all_bits fs) 0 (omega arith)))
      (split p (8 * m))

  -- what was written is read
  pub reads_packed : Small fs → Agrees (bits_at (packed (all_bits fs))) 0 fs
  reads_packed s = agrees_of (bit_at (packed (all_bits fs))) 0 fs s (λ p l. packed_bit (0 + p) ∙ ap (λ q. get_or (all_bits fs) q 0) (omega arith))

  pub fill_packed : (w : ℕ) → bits_at (packed (all_bits fs)) (total fs) w ≡ 0
  fill_packed w =
      binary_zero (bit_at (packed (all_bits fs))) (total fs) w
      (λ j l. packed_bit (total fs + j) ∙ get_or-eq_default (all_bits fs) 0 (omega (arith, length_all_bits fs)))

  -- what was read is written again
  pub packed_reads : (s : List ℕ) → Bytes s → length s ≡ (total fs + 7) / 8 → Agrees (bits_at s) 0 fs
      → bits_at s (total fs) (8 * length s - total fs) ≡ 0 → packed (all_bits fs) ≡ s
  unfolding packed
  packed_reads s b n a z =
      ap (λ m. pack m (λ p. get_or (all_bits fs) p 0)) (ap (λ m. (m + 7) / 8) (length_all_bits fs) ∙ sym n)
      ∙ pack_bits s b (λ p. get_or (all_bits fs) p 0) same
    where
      same : (p : ℕ) → p < 8 * length s → get_or (all_bits fs) p 0 ≡ bit_at s p
      same p l =
          ⊎_elim
          (λ k. let e : 0 + p ≡ p = omega arith in sym (of_agrees (bit_at s) (bit_at_bit s) 0 fs a p k) ∙ ap (bit_at s) e)
          (λ k. let e : total fs + (p - total fs) ≡ p = omega arith in
          get_or-eq_default (all_bits fs) 0 (omega (arith, length_all_bits fs))
          ∙ sym (zero_binary (bit_at s) (total fs) (8 * length s - total fs) z (p - total fs) (omega arith)) ∙ ap (bit_at s) e)
          (split p (total fs))
