-- Bits written after bits over the front of old bytes: what one step of the code does to one byte, and steps one after the other.
-- Assumes nothing.
use Rattle.std.specs.Prelude.{ℕ, ◌+◌, ◌*◌, ◌/◌, ◌%◌, ◌^◌, ◌≤◌, ◌<◌, ◌≡◌, List, ◌++◌, length, get_or}
use Rattle.lists.specs.Lists.{over}
use Rattle.file_format.specs.Bits.{packed, Bits}

-- the c bits of v, one at least, fit into one byte of s from a position on
pub record InByte (s : List ℕ) (at c v : ℕ) : Type 0 where
  pub some : 1 ≤ c
  pub inside : at % 8 + c ≤ 8
  pub small : v < 2 ^ c
  pub room : at + c ≤ 8 * length s

-- s has the bytes that the bits bs fill over the front of old, and the next bit goes to `at`
pub record Stands (old bs s : List ℕ) (at : ℕ) : Type 0 where
  pub is : s ≡ over (packed bs) old
  pub place : at ≡ length bs
  pub bits : Bits (λ p. get_or bs p 0)
  pub room : (length bs + 7) / 8 ≤ length old

-- s' is s with the bits bs written at `at`, after all that was written before
pub record Adds (s : List ℕ) (at : ℕ) (bs s' : List ℕ) : Type 0 where
  pub next : (old cs : List ℕ) → Stands old cs s at → Stands old (cs ++ bs) s' (at + length bs)
  pub same : length s' ≡ length s
