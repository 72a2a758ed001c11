-- The file of a valid study with counts, of either mark: its length, and that Read accepts it and gives the contents back. Assumes nothing.
use Prim.Native.Nat.{ℕ, zero, suc, ◌+◌, ◌-◌, ◌*◌, ◌/◌, ◌≤◌, ◌<◌}
use native.Mathlib.Nat.{not-suc-le-zero}
use native.Mathlib.Omega.{arith}
use mathlib.Core.Path.{◌≡◌, refl, sym, ap, ap₂, ◌∙◌, subst}
use mathlib.Core.Logic.{◌⊎◌, inl, inr, ⊎_elim}
use mathlib.Core.List.{List, [], ◌∷◌, ◌++◌, map, flat_map, append-nil}
use lib.Dec.{T}
use lib.ListN.{length, get_or, take, drop, replicate, length-drop, length-replicate, get_or-replicate, take-append-drop}
use lib.Seq.{get_or-take, get_or-drop, ext_get_or, length-take-le}
use Rattle.lists.specs.Lists.{sum_below, tabulate}
use Rattle.lists.proofs.Tests.{split}
use Rattle.lists.proofs.Tables.{tabulate_is}
use Rattle.study.specs.declared.Minima.{Minima}
use Rattle.study.specs.Study.{Tide, Study, Contents, size, no_tide, tide, valid_minima, Valid, ValidCounts}
use Rattle.study.specs.Refusals.{accepted, first_of}
use Rattle.study.specs.Theorems.{ValidContents}
use Rattle.study.specs.Minima.{MinimaFit}
use Rattle.study.proofs.StudyLaws.{valid_minima-T}
use Rattle.file_format.specs.Bits.{bits_at, field}
use Rattle.file_format.specs.File.{new_mark, old_mark, tide_fields, fields, file_with, file_of, old_file, counts_end, bit_length, byte_length}
use Rattle.file_format.specs.File.{counts_under, mark_of, counts_in, counts_at, tide_at, minima_at, decoded, read_reasons}
use Rattle.file_format.specs.Theorems.{Bytes}
use Rattle.file_format.proofs.BitLaws.{Small, packed_length, packed_bytes, reads_packed, fill_packed}
use Rattle.file_format.proofs.RunLaws.{small_append, runs_small, values_small}
use Rattle.file_format.proofs.FileLaws.{Shaped, Laid, fields_total, laid-T}
use Rattle.file_format.proofs.DistanceLaws.{distance_row, rule-T}
use Rattle.file_format.proofs.DecodedLaws.{counts_few}
use Rattle.file_format.specs.Head.{Head}
use Rattle.file_format.proofs.ReadLaws.{head-T, Fits, fits-T, accepted-T}

sum_at : (n : ℕ) (f : ℕ → ℕ) (j : ℕ) → j < n → f j ≤ sum_below n f
unfolding sum_below
sum_at zero f j l = absurd (not-suc-le-zero l)
sum_at (suc n) f j l =
    ⊎_elim (λ k. omega (arith, sum_at n f j k)) (λ k. let e : n ≡ j = omega arith in subst (λ i. f i ≤ sum_below n f + f n) e (omega arith)) (split j n)

pub shaped : (S : Study) → Valid S → Shaped S
shaped S valid =
    let fit = (valid_minima-T S.k S.minima).0 valid.minima in
    record { minima = omega (arith, fit.eight, valid.k_high); rows = valid.row_length }

-- ---- counts that a file of this mark can carry

pub record Carried (m : ℕ) (ws : List ℕ) : Type 0 where
  pub marked : (m ≡ new_mark) ⊎ (m ≡ old_mark)
  pub as_many : length ws ≡ counts_under m
  pub small : (i : ℕ) → i < length ws → get_or ws i 0 ≤ 65535

new_carried : (ws : List ℕ) → ValidCounts ws → Carried new_mark ws
unfolding counts_under
new_carried ws ok = record { marked = inl refl; as_many = ok.four; small = λ i l. ok.high i (omega (arith, ok.four)) }

old_carried : (w : ℕ) → w ≤ 65535 → Carried old_mark (w ∷ [])
unfolding counts_under
old_carried w h = record { marked = inr refl; as_many = refl; small = one }
  where
    one : (i : ℕ) → i < 1 → get_or (w ∷ []) i 0 ≤ 65535
    one zero l = h
    one (suc i) l = omega arith

-- ---- the file of a valid study with such counts

module _ (m : ℕ) (ws : List ℕ) (S : Study) (C : Carried m ws) (valid : Valid S) where
  abbrev s : List ℕ
  s = file_with m ws S

  abbrev b : List ℕ
  b = S.minima.b

  fit : MinimaFit S.k S.minima
  fit = (valid_minima-T S.k S.minima).0 valid.minima

  first_length : length (take S.k b) ≡ S.k
  first_length = length-take-le S.k b (shaped S valid).minima

  mark_small : m < 256
  mark_small = ⊎_elim (λ e. omega arith) (λ e. omega arith) C.marked

  minimum_small : (j : ℕ) → j < S.k → get_or b j 0 < 128
  minimum_small j l = omega (arith, sum_at 8 (λ j. get_or b j 0) j (omega (arith, valid.k_high)), fit.sum, fit.high)

  distance_small : (t i : ℕ) → t < size S → i < t → get_or (tide S t).row i 0 < 1048576
  distance_small t i l k = omega (arith, distance_row S t i k, valid.distance_high t i l (omega arith))

  tide_small : (t : ℕ) → t < size S → Small (tide_fields (tide S t))
  unfolding tide_fields
  tide_small t l = (
    omega (arith, valid.setting_low t l, valid.setting_high t l, valid.k_high),
    values_small 20 (tide S t).row (λ i k. distance_small t i l (omega (arith, valid.row_length t l))),
  )

  fields_small : Small (fields m ws S)
  unfolding fields tide
  fields_small =
      let minima = values_small 7 (take S.k b) (λ j l.
      let k : j < S.k = omega (arith, first_length) in rw (get_or-take S.k b j 0 k) (minimum_small j k)) in
      let counts = values_small 16 ws (λ i l. omega (arith, C.small i l)) in
      let rest = small_append (map (field 7) (take S.k b)) (flat_map tide_fields S.tides) minima (runs_small tide_fields no_tide S.tides tide_small) in
      (mark_small, (omega (arith, valid.few), (omega (arith, valid.k_high), (omega (arith, fit.high), small_append (map (field 16) ws) _ counts rest))))

  pub with_bytes : Bytes (file_with m ws S)
  unfolding file_with
  with_bytes = packed_bytes (fields m ws S)

  pub with_length : length (file_with m ws S) ≡ byte_length (length ws) S.k (size S)
  unfolding file_with byte_length
  with_length = packed_length (fields m ws S) ∙ ap (λ x. (x + 7) / 8) (fields_total m ws S (shaped S valid))

  laid : Laid (bits_at s) m ws S
  unfolding file_with
  laid = (laid-T m ws S (shaped S valid) (bits_at s)).0 (reads_packed (fields m ws S) fields_small)

  fill : (w : ℕ) → bits_at s (bit_length (length ws) S.k (size S)) w ≡ 0
  unfolding file_with
  fill w = subst (λ p. bits_at s p w ≡ 0) (fields_total m ws S (shaped S valid)) (fill_packed (fields m ws S) w)

  -- ---- what it holds

  as_many : counts_in s ≡ length ws
  as_many = ap counts_under laid.mark ∙ sym C.as_many

  starts : (t : ℕ) → bit_length (counts_in s) S.k t ≡ bit_length (length ws) S.k t
  starts t = ap (λ c. bit_length c S.k t) as_many

  -- the contents with these counts, and none of the other users
  abbrev held : Contents
  held = record { study = S; withdrawals = ws ++ replicate (4 - length ws) 0 }

  counts_read : counts_at s ≡ ws ++ replicate (4 - length ws) 0
  unfolding counts_at
  counts_read =
      ap (λ c. tabulate c (λ i. bits_at s (counts_end i) 16) ++ replicate (4 - c) 0) as_many
      ∙ ap (λ xs. xs ++ replicate (4 - length ws) 0) (tabulate_is (length ws) (λ i. bits_at s (counts_end i) 16) 0 ws refl laid.counts)

  minima_read : minima_at s S.k ≡ S.minima
  unfolding minima_at
  minima_read = ap₂ (λ (x : ℕ) (y : List ℕ). record { b0 = x; b = y }) laid.b0 (ap₂ (λ x y. x ++ y) front above ∙ take-append-drop S.k b)
    where
      front : tabulate S.k (λ j. bits_at s (counts_end (counts_in s) + 7 * j) 7) ≡ take S.k b
      front =
          tabulate_is S.k _ 0 (take S.k b) first_length (λ j l.
          ap (λ c. bits_at s (counts_end c + 7 * j) 7) as_many ∙ laid.minima j l ∙ sym (get_or-take S.k b j 0 l))

      above : replicate (8 - S.k) 0 ≡ drop S.k b
      above =
          let n = length-replicate {A = ℕ} (8 - S.k) 0 in
          ext_get_or 0 (replicate (8 - S.k) 0) (drop S.k b) (omega (arith, n, length-drop S.k b, fit.eight))
          (λ i l. get_or-replicate (8 - S.k) i 0 0 (omega arith) ∙ sym (get_or-drop S.k b i 0 ∙ fit.above (S.k + i) (omega arith) (omega arith)))

  tide_read : (t : ℕ) → t < size S → tide_at s S.k t ≡ tide S t
  unfolding tide_at
  tide_read t l =
      let e : bits_at s (bit_length (counts_in s) S.k t) 3 + 1 ≡ (tide S t).setting =
      ap (λ p. bits_at s p 3 + 1) (starts t) ∙ omega (arith, laid.settings t l, valid.setting_low t l) in
      ap₂ (λ (x : ℕ) (y : List ℕ). record { setting = x; row = y }) e
      (tabulate_is t _ 0 (tide S t).row (valid.row_length t l) (λ i k. ap (λ p. bits_at s (p + 3 + 20 * i) 20) (starts t) ∙ laid.rows t i l k))

  tides_read : tabulate (size S) (tide_at s S.k) ≡ S.tides
  unfolding tide
  tides_read = tabulate_is (size S) (tide_at s S.k) no_tide S.tides refl tide_read

  pub with_decoded : decoded (file_with m ws S) ≡ record { study = S; withdrawals = ws ++ replicate (4 - length ws) 0 }
  unfolding decoded
  with_decoded =
      ap₂ (λ (k n : ℕ). record { study = record { k = k; minima = minima_at s k; tides = tabulate n (tide_at s k) }; withdrawals = counts_at s })
      laid.k laid.tides
      ∙ ap₂ (λ (x : Minima) (ts : List Tide). record { study = record { k = S.k; minima = x; tides = ts }; withdrawals = counts_at s })
      minima_read tides_read
      ∙ ap (λ (xs : List ℕ). record { study = S; withdrawals = xs }) counts_read

  -- ---- no reason holds

  marked : (mark_of s ≡ new_mark) ⊎ (mark_of s ≡ old_mark)
  marked = ⊎_elim (λ e. inl (laid.mark ∙ e)) (λ e. inr (laid.mark ∙ e)) C.marked

  -- a file of four counts has 90 bits and more
  twelve : mark_of s ≡ new_mark → 12 ≤ length s
  unfolding byte_length bit_length counts_under
  twelve e =
      let four : length ws ≡ 4 = sym as_many ∙ ap counts_under e in
      omega (arith, with_length)

  head : Head s
  unfolding byte_length bit_length decoded
  head =
      record {
        six = omega (arith, with_length, as_many, counts_few s);
        mark = marked;
        twelve = twelve;
        few = omega (arith, laid.tides, valid.few);
        k_low = omega (arith, laid.k, valid.k_low);
        k_high = omega (arith, laid.k, valid.k_high);
        long = with_length
            ∙ ap₂ (byte_length (length ws)) (sym laid.k) (sym laid.tides)
            ∙ ap (λ c. byte_length c (bits_at s 15 4) (bits_at s 8 7)) (sym as_many);
        minima = subst (λ (G : Contents). T (valid_minima G.study.k G.study.minima)) (sym with_decoded) valid.minima;
        filled = ap (λ c. let end = bit_length c (bits_at s 15 4) (bits_at s 8 7) in bits_at s end (8 * length s - end)) as_many
            ∙ ap₂ (λ k n. let end = bit_length (length ws) k n in bits_at s end (8 * length s - end)) laid.k laid.tides
            ∙ fill (8 * length s - bit_length (length ws) S.k (size S));
      }

  fits : (t : ℕ) → t < size S → Fits S t
  fits t l = record { low = valid.setting_low t l; high = valid.setting_high t l; obeyed = (rule-T S).0 valid.triangle t l }

  pub with_accepted : first_of (read_reasons (file_with m ws S)) ≡ accepted
  with_accepted =
      (accepted-T s).1
      (record {
        head = (head-T s).1 head;
        tides = λ t l. (fits-T (decoded s).study t).1
            (subst (λ (G : Contents). t < size G.study → Fits G.study t) (sym with_decoded) (fits t) l);
      })

-- ---- the file of valid contents

module _ (H : Contents) (ok : ValidContents H) where
  abbrev carried : Carried new_mark H.withdrawals
  carried = new_carried H.withdrawals ok.counts

  pub file_bytes : Bytes (file_of H)
  unfolding file_of
  file_bytes = with_bytes new_mark H.withdrawals H.study carried ok.study

  pub file_length : length (file_of H) ≡ byte_length 4 H.study.k (size H.study)
  unfolding file_of
  file_length =
      with_length new_mark H.withdrawals H.study carried ok.study ∙ ap (λ c. byte_length c H.study.k (size H.study)) ok.counts.four

  pub decoded_file : decoded (file_of H) ≡ H
  unfolding file_of
  decoded_file =
      with_decoded new_mark H.withdrawals H.study carried ok.study
      ∙ ap (λ (xs : List ℕ). record { study = H.study; withdrawals = xs })
      (ap (λ c. H.withdrawals ++ replicate (4 - c) 0) ok.counts.four ∙ append-nil H.withdrawals)

  pub file_accepted : first_of (read_reasons (file_of H)) ≡ accepted
  unfolding file_of
  file_accepted = with_accepted new_mark H.withdrawals H.study carried ok.study

-- ---- document 01's file

module _ (w : ℕ) (S : Study) (h : w ≤ 65535) (valid : Valid S) where
  pub old_accepted : first_of (read_reasons (old_file w S)) ≡ accepted
  unfolding old_file
  old_accepted = with_accepted old_mark (w ∷ []) S (old_carried w h) valid

  pub old_decoded : decoded (old_file w S) ≡ record { study = S; withdrawals = w ∷ 0 ∷ 0 ∷ 0 ∷ [] }
  unfolding old_file
  old_decoded = with_decoded old_mark (w ∷ []) S (old_carried w h) valid
