-- The place of the next bit, carried from field to field, and what a field read there is. Assumes nothing.
use Rattle.std.specs.Prelude.{ℕ, ◌+◌, ◌*◌, ◌^◌, ◌≤◌, ◌<◌, ◌≡◌, List, length, get_or, Option, Some, None}
use Rattle.file_format.specs.Bits.{bits_at}
use Rattle.bit_reader.specs.declared.Place.{Place}

-- document 02, 2.5: before each field the bit is below 8, and eight times the byte plus the bit is the number of bits read
pub record BitsRead (p : Place) (n : ℕ) : Type 0 where
  pub below : p.bit < 8
  pub count : 8 * p.byte + p.bit ≡ n

-- a field that can be asked for at a place: its width is that of a field of the file, and the bits read fit a word
pub record Askable (p : Place) (w : ℕ) : Type 0 where
  pub read : ℕ
  pub here : BitsRead p read
  pub low : read < 2 ^ 63
  pub wide : 1 ≤ w
  pub narrow : w ≤ 20

-- the four bytes from byte i on as one number; those past the end are 0
abbrev pub word_at : List ℕ → ℕ → ℕ
word_at s i = get_or s i 0 * 16777216 + get_or s (i + 1) 0 * 65536 + get_or s (i + 2) 0 * 256 + get_or s (i + 3) 0

-- a field that was read after n bits: it is inside the bytes, and v is the number in it
pub record FieldGot (s : List ℕ) (n w v : ℕ) : Type 0 where
  pub inside : n + w ≤ 8 * length s
  pub is : v ≡ bits_at s n w

-- the answer after n bits, asked for w more: the field, or none where the bytes stop before
pub record FieldRead (s : List ℕ) (n w : ℕ) (f : Option ℕ) : Type 0 where
  pub got : {v : ℕ} → f ≡ Some v → FieldGot s n w v
  pub ends : f ≡ None → 8 * length s < n + w

-- the answer, and the place past the field
pub record Stepped (s : List ℕ) (n w : ℕ) (f : Option ℕ) (next : Place) : Type 0 where
  pub field : FieldRead s n w f
  pub past : BitsRead next (n + w)
