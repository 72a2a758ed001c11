-- Inner promises of Read: no reason before any tide holds, and none of the first tides. Assumes nothing.
use Rattle.std.specs.Prelude.{ℕ, ◌-◌, ◌*◌, ◌≤◌, ◌<◌, ◌≡◌, ◌⊎◌, List, T, length}
use Rattle.study.specs.Limits.{max_tides}
use Rattle.study.specs.Study.{valid_minima}
use Rattle.study.specs.Refusals.{accepted, first_of}
use Rattle.file_format.specs.Bits.{bits_at}
use Rattle.file_format.specs.File.{new_mark, old_mark, bit_length, byte_length, mark_of, counts_in, minima_at, decoded, head_reasons}
use Rattle.file_format.specs.File.{tide_reasons}

-- no reason before any tide holds: what the fields before the tides then are
pub record Head (s : List ℕ) : Type 0 where
  pub six : 6 ≤ length s
  pub mark : (mark_of s ≡ new_mark) ⊎ (mark_of s ≡ old_mark)
  pub twelve : mark_of s ≡ new_mark → 12 ≤ length s
  pub few : bits_at s 8 7 ≤ max_tides
  pub k_low : 1 ≤ bits_at s 15 4
  pub k_high : bits_at s 15 4 ≤ 8
  pub long : length s ≡ byte_length (counts_in s) (bits_at s 15 4) (bits_at s 8 7)
  pub minima : T (valid_minima (bits_at s 15 4) (minima_at s (bits_at s 15 4)))
  pub filled : let end = bit_length (counts_in s) (bits_at s 15 4) (bits_at s 8 7) in bits_at s end (8 * length s - end) ≡ 0

-- no reason holds before any tide, and none of the tides below t
pub record Clear (s : List ℕ) (t : ℕ) : Type 0 where
  pub head : first_of (head_reasons s) ≡ accepted
  pub tides : (u : ℕ) → u < t → first_of (tide_reasons (decoded s).study u) ≡ accepted
