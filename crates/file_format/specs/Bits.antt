-- Fields packed into bytes, most significant bit first, and the numbers that the bits of a list of bytes form. Assumes nothing.
use Rattle.std.specs.Prelude.{ℕ, zero, suc, ◌+◌, ◌-◌, ◌*◌, ◌/◌, ◌%◌, ◌^◌, ◌<◌, length, get_or}
use mathlib.Core.List.{List, [], ◌∷◌, ◌++◌, flat_map}
use Rattle.lists.specs.Lists.{tabulate}

-- the number that the w bits f at, f (at + 1), .. form
unfoldable pub binary : (ℕ → ℕ) → ℕ → ℕ → ℕ
binary f at zero = 0
binary f at (suc w) = binary f at w * 2 + f (at + w)

-- ---- reading, by bit position

-- bit p of the bytes s: bit 7 - p % 8 of byte p / 8
abbrev pub bit_at : List ℕ → ℕ → ℕ
bit_at s p = get_or s (p / 8) 0 / 2 ^ (7 - p % 8) % 2

-- the number in the w bits at a position
abbrev pub bits_at : List ℕ → ℕ → ℕ → ℕ
bits_at s at w = binary (bit_at s) at w

-- ---- writing: fields, bits, bytes

-- a field of a file: how many bits it has, and the number in them
pub record Field : Type 0 where
  pub width : ℕ
  pub value : ℕ

-- the field of w bits that holds v
abbrev pub field : ℕ → ℕ → Field
field w v = record { width = w; value = v }

-- the w bits of v, most significant first
abbrev pub bits_of : ℕ → ℕ → List ℕ
bits_of zero v = []
bits_of (suc w) v = bits_of w (v / 2) ++ (v % 2 ∷ [])

-- the bits of fields, one field after the other
unfoldable pub all_bits : List Field → List ℕ
all_bits fs = flat_map (λ (f : Field). bits_of f.width f.value) fs

-- m bytes, where bit p is f p
unfoldable pub pack : ℕ → (ℕ → ℕ) → List ℕ
pack m f = tabulate m (λ i. binary f (8 * i) 8)

-- the bytes that the bits bs fill, with zero bits to the last byte
unfoldable pub packed : List ℕ → List ℕ
packed bs = pack ((length bs + 7) / 8) (λ p. get_or bs p 0)

-- each is 0 or 1
abbrev pub Bits : (ℕ → ℕ) → Type 0
Bits f = (p : ℕ) → f p < 2
