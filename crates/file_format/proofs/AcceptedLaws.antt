-- Bytes that Read accepts: they hold valid contents, and are the file of these. Assumes nothing.
use Prim.Native.Nat.{ℕ, ◌+◌, ◌-◌, ◌*◌, ◌/◌, ◌≤◌, ◌<◌}
use native.Mathlib.Omega.{arith}
use mathlib.Core.Path.{◌≡◌, refl, sym, ap, ap₂, ◌∙◌}
use mathlib.Core.Logic.{◌⊎◌}
use mathlib.Core.List.{List, [], ◌∷◌, ◌++◌, append-nil}
use lib.ListN.{length, get_or, replicate}
use Rattle.lists.specs.Lists.{tabulate}
use Rattle.lists.proofs.Tables.{length_tabulate, get_d_tabulate}
use Rattle.study.specs.Study.{Tide, Study, Contents, size, tide}
use Rattle.study.specs.Refusals.{accepted, first_of}
use Rattle.study.specs.Theorems.{ValidContents}
use Rattle.file_format.specs.Bits.{bits_at}
use Rattle.file_format.specs.File.{new_mark, old_mark, fields, file_with, file_of, old_file, counts_end, bit_length, byte_length}
use Rattle.file_format.specs.File.{counts_under, mark_of, counts_in, counts_at, minima_at, tide_at, decoded, read_reasons}
use Rattle.file_format.specs.Theorems.{Bytes, OldFile}
use Rattle.file_format.proofs.BitLaws.{bits_at_small, total, packed_reads}
use Rattle.file_format.proofs.FileLaws.{Laid, fields_total, laid-T}
use Rattle.file_format.proofs.DistanceLaws.{distance_most, rule-T}
use Rattle.file_format.proofs.DecodedLaws.{counts_valid, decoded_minimum, decoded_size, decoded_setting, decoded_length, decoded_row}
use Rattle.file_format.specs.Head.{Head, Clear}
use Rattle.file_format.proofs.ReadLaws.{head-T, Fits, fits-T, accepted-T}
use Rattle.file_format.proofs.WrittenLaws.{shaped}

-- ---- contents are valid where no reason before the tides holds, and each tide is

-- no reason holds of tide t, and its row has a distance of 20 bits for each tide before it
pub record TideValid (S : Study) (t : ℕ) : Type 0 where
  pub fits : Fits S t
  pub long : length (tide S t).row ≡ t
  pub small : (i : ℕ) → i < t → get_or (tide S t).row i 0 ≤ 1048575

-- the contents that the fields before the tides give to these tides
abbrev pub contents_with : List ℕ → List Tide → Contents
contents_with s ts =
    record { study = record { k = bits_at s 15 4; minima = minima_at s (bits_at s 15 4); tides = ts }; withdrawals = counts_at s }

pub contents_valid : (s : List ℕ) (ts : List Tide) → Head s → length ts ≤ 120 → ((t : ℕ) → t < length ts → TideValid (contents_with s ts).study t)
    → ValidContents (contents_with s ts)
contents_valid s ts head few valid =
    record {
      study = record {
        k_low = head.k_low;
        k_high = head.k_high;
        few = few;
        minima = head.minima;
        setting_low = λ t l. (valid t l).fits.low;
        setting_high = λ t l. (valid t l).fits.high;
        row_length = λ t l. (valid t l).long;
        distance_high = distance_most (contents_with s ts).study 1048575 (λ t i l m. (valid t l).small i m);
        triangle = (rule-T (contents_with s ts).study).1 (λ t l. (valid t l).fits.obeyed);
      };
      counts = counts_valid s;
    }

-- ---- what Read accepts

module _ (s : List ℕ) (e : first_of (read_reasons s) ≡ accepted) where
  abbrev n : ℕ
  n = bits_at s 8 7

  abbrev k : ℕ
  k = bits_at s 15 4

  abbrev c : ℕ
  c = counts_in s

  abbrev S : Study
  S = (decoded s).study

  -- the counts that the file carries
  abbrev ws : List ℕ
  ws = tabulate (counts_in s) (λ i. bits_at s (counts_end i) 16)

  as_many : length ws ≡ c
  as_many = length_tabulate c (λ i. bits_at s (counts_end i) 16)

  clear : Clear s (size S)
  clear = (accepted-T s).0 e

  head : Head s
  head = (head-T s).0 clear.head

  fits : (t : ℕ) → t < size S → Fits S t
  fits t l = (fits-T S t).0 (clear.tides t l)

  pub accepted_valid : ValidContents (decoded s)
  unfolding decoded
  accepted_valid =
      contents_valid s (tabulate n (tide_at s k)) head (omega (arith, decoded_size s, head.few)) (λ t l.
      record {
        fits = fits t l;
        long = decoded_length s t l;
        small = λ i m. omega (arith, decoded_row s t l i m, bits_at_small s (bit_length c k t + 3 + 20 * i) 20);
      })

  pub accepted_mark : (mark_of s ≡ new_mark) ⊎ (mark_of s ≡ old_mark)
  accepted_mark = head.mark

  laid : Laid (bits_at s) (mark_of s) ws S
  unfolding decoded minima_at
  laid =
      record {
        mark = refl;
        tides = sym (decoded_size s);
        k = refl;
        b0 = refl;
        counts = λ i l. sym (get_d_tabulate c (λ i. bits_at s (counts_end i) 16) i 0 (omega (arith, as_many)));
        minima = λ j l. ap (λ x. bits_at s (counts_end x + 7 * j) 7) as_many ∙ sym (decoded_minimum s j l);
        settings = λ t l. ap (λ x. bits_at s (bit_length x k t) 3) as_many ∙ omega (arith, decoded_setting s t l);
        rows = λ t i l m. ap (λ x. bits_at s (bit_length x k t + 3 + 20 * i) 20) as_many ∙ sym (decoded_row s t l i m);
      }

  total_is : total (fields (mark_of s) ws S) ≡ bit_length c k n
  unfolding decoded
  total_is = fields_total (mark_of s) ws S (shaped S accepted_valid.study) ∙ ap₂ (λ x y. bit_length x k y) as_many (decoded_size s)

  -- bytes are the file of their mark, their counts and their study
  accepted_file : Bytes s → file_with (mark_of s) ws (decoded s).study ≡ s
  unfolding file_with byte_length
  accepted_file bytes =
      packed_reads (fields (mark_of s) ws S) s bytes (head.long ∙ ap (λ x. (x + 7) / 8) (sym total_is))
      ((laid-T (mark_of s) ws S (shaped S accepted_valid.study) (bits_at s)).1 laid)
      (ap (λ x. bits_at s x (8 * length s - x)) total_is ∙ head.filled)

  -- four counts
  pub accepted_new : Bytes s → mark_of s ≡ new_mark → file_of (decoded s) ≡ s
  unfolding file_of decoded counts_at counts_under
  accepted_new bytes e = ap₂ (λ m vs. file_with m vs S) (sym e) all ∙ accepted_file bytes
    where
      all : counts_at s ≡ ws
      all = ap (λ m. ws ++ replicate (4 - counts_under m) 0) e ∙ append-nil ws

  -- one count
  pub accepted_old : Bytes s → mark_of s ≡ old_mark → OldFile s (decoded s)
  unfolding file_of old_file decoded counts_at counts_under tabulate
  accepted_old bytes e =
      record {
        count = bits_at s 26 16;
        was = ap₂ (λ m vs. file_with m vs S) (sym e) (sym one) ∙ accepted_file bytes;
        counts = user_1;
        own_file = ap (λ vs. file_with new_mark vs S) user_1;
      }
    where
      one : ws ≡ bits_at s 26 16 ∷ []
      one = ap (λ m. tabulate (counts_under m) (λ i. bits_at s (counts_end i) 16)) e

      user_1 : counts_at s ≡ bits_at s 26 16 ∷ 0 ∷ 0 ∷ 0 ∷ []
      user_1 = ap (λ m. tabulate (counts_under m) (λ i. bits_at s (counts_end i) 16) ++ replicate (4 - counts_under m) 0) e
