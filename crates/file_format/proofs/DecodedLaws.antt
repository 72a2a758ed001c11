-- What the contents held in given bytes are, by bit position. Assumes nothing.
use Prim.Native.Nat.{ℕ, ◌+◌, ◌-◌, ◌*◌, ◌≤◌, ◌<◌}
use native.Mathlib.Omega.{arith}
use mathlib.Core.Path.{◌≡◌, sym, ap, ◌∙◌}
use mathlib.Core.Logic.{⊎_elim}
use mathlib.Core.Bool.{Bool, true, false, cond}
use mathlib.Core.List.{List, ◌++◌}
use lib.Dec.{eqb, lit≤}
use lib.ListN.{length, get_or, replicate, length-append, length-replicate, get_or-replicate, get_or-append}
use lib.Seq.{get_or-append-add}
use Rattle.lists.specs.Lists.{tabulate}
use Rattle.lists.proofs.Tests.{split}
use Rattle.lists.proofs.Tables.{length_tabulate, get_d_tabulate}
use Rattle.study.specs.Study.{Tide, ValidCounts, size, no_tide, tide}
use Rattle.file_format.specs.Bits.{bits_at}
use Rattle.file_format.specs.File.{new_mark, counts_end, bit_length, counts_under, mark_of, counts_in, counts_at, tide_at, minima_at, decoded}
use Rattle.file_format.proofs.BitLaws.{bits_at_small}

module _ (s : List ℕ) where
  abbrev k : ℕ
  k = bits_at s 15 4

  -- a number of the front of a list that goes on
  front_at : (n : ℕ) (f : ℕ → ℕ) (past : List ℕ) (j : ℕ) → j < n → get_or (tabulate n f ++ past) j 0 ≡ f j
  front_at n f past j l = get_or-append (tabulate n f) past 0 j (omega (arith, length_tabulate n f)) ∙ get_d_tabulate n f j 0 l

  pub decoded_minimum : (j : ℕ) → j < bits_at s 15 4 → get_or (decoded s).study.minima.b j 0 ≡ bits_at s (counts_end (counts_in s) + 7 * j) 7
  unfolding decoded minima_at
  decoded_minimum j l = front_at k (λ j. bits_at s (counts_end (counts_in s) + 7 * j) 7) _ j l

  -- one count, or four
  pub counts_few : (1 ≤ counts_in s) × (counts_in s ≤ 4)
  unfolding counts_under
  counts_few = by (eqb (mark_of s) new_mark)
    where
      by : (b : Bool) → (1 ≤ cond b 4 1) × (cond b 4 1 ≤ 4)
      by true = (lit≤ tt, lit≤ tt)
      by false = (lit≤ tt, lit≤ tt)

  pub counts_valid : ValidCounts (counts_at s)
  unfolding counts_at
  counts_valid =
      let few = counts_few.1 in
      record {
        four = length-append held zeros ∙ omega (arith, length_tabulate c count, length-replicate {A = ℕ} (4 - c) 0);
        high = λ i l. ⊎_elim (λ h. omega (arith, front_at c count zeros i h, bits_at_small s (counts_end i) 16)) (λ h. omega (arith, past i l h)) (split i c);
      }
    where
      c : ℕ
      c = counts_in s

      count : ℕ → ℕ
      count i = bits_at s (counts_end i) 16

      held : List ℕ
      held = tabulate (counts_in s) (λ i. bits_at s (counts_end i) 16)

      zeros : List ℕ
      zeros = replicate (4 - counts_in s) 0

      past : (i : ℕ) → i < 4 → c ≤ i → get_or (held ++ zeros) i 0 ≡ 0
      past i l h =
          let e : length held + (i - c) ≡ i = omega (arith, length_tabulate c count) in
          ap (λ x. get_or (held ++ zeros) x 0) (sym e) ∙ get_or-append-add held zeros (i - c) 0 ∙ get_or-replicate (4 - c) (i - c) 0 0 (omega arith)

  pub decoded_size : size (decoded s).study ≡ bits_at s 8 7
  unfolding decoded
  decoded_size = length_tabulate (bits_at s 8 7) (tide_at s k)

  -- tide t
  module _ (t : ℕ) (held : t < size (decoded s).study) where
    pub decoded_tide : tide (decoded s).study t ≡ tide_at s (bits_at s 15 4) t
    unfolding tide decoded
    decoded_tide = get_d_tabulate (bits_at s 8 7) (tide_at s k) t no_tide (omega (arith, decoded_size))

    pub decoded_setting : (tide (decoded s).study t).setting ≡ bits_at s (bit_length (counts_in s) (bits_at s 15 4) t) 3 + 1
    unfolding tide_at
    decoded_setting = ap (λ (x : Tide). x.setting) decoded_tide

    pub decoded_length : length (tide (decoded s).study t).row ≡ t
    unfolding tide_at
    decoded_length = ap (λ (x : Tide). length x.row) decoded_tide ∙ length_tabulate t _

    pub decoded_row : (i : ℕ) → i < t → get_or (tide (decoded s).study t).row i 0 ≡ bits_at s (bit_length (counts_in s) (bits_at s 15 4) t + 3 + 20 * i) 20
    unfolding tide_at
    decoded_row i l = ap (λ (x : Tide). get_or x.row i 0) decoded_tide ∙ get_d_tabulate t _ i 0 l
