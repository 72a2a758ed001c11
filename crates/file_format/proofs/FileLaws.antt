-- Where each field of a file stands: the position of every minimum, setting and distance, and the bits of all. Assumes nothing.
use Prim.Native.Nat.{ℕ, zero, suc, ◌+◌, ◌-◌, ◌*◌, ◌≤◌, ◌<◌}
use native.Mathlib.Nat.{mul-suc, suc-mul}
use native.Mathlib.Omega.{arith}
use mathlib.Core.Path.{◌≡◌, refl, sym, ap, ◌∙◌, subst}
use mathlib.Core.Logic.{◌↔◌}
use mathlib.Core.List.{List, ◌++◌, map, flat_map}
use lib.ListN.{length, get_or, take}
use lib.Seq.{length-take-le, get_or-take}
use Rattle.study.specs.Study.{Tide, Study, size, no_tide, tide}
use Rattle.file_format.specs.Bits.{Field, field}
use Rattle.file_format.specs.File.{tide_fields, fields, counts_end, bit_length}
use Rattle.file_format.proofs.BitLaws.{Agrees, total}
use Rattle.file_format.proofs.RunLaws.{total_append, agrees_append, StartsWith, runs_total, runs_agree, values_total, values_agree}

-- the lists of the study are as long as the fields ask
pub record Shaped (S : Study) : Type 0 where
  pub minima : S.k ≤ length S.minima.b
  pub rows : (t : ℕ) → t < size S → length (tide S t).row ≡ t

-- `g at w` is the field of w bits at a position: each field of a file of this mark, these counts and this study by its own position
pub record Laid (g : ℕ → ℕ → ℕ) (m : ℕ) (ws : List ℕ) (S : Study) : Type 0 where
  pub mark : g 0 8 ≡ m
  pub tides : g 8 7 ≡ size S
  pub k : g 15 4 ≡ S.k
  pub b0 : g 19 7 ≡ S.minima.b0
  pub counts : (i : ℕ) → i < length ws → g (counts_end i) 16 ≡ get_or ws i 0
  pub minima : (j : ℕ) → j < S.k → g (counts_end (length ws) + 7 * j) 7 ≡ get_or S.minima.b j 0
  pub settings : (t : ℕ) → t < size S → g (bit_length (length ws) S.k t) 3 ≡ (tide S t).setting - 1
  pub rows : (t i : ℕ) → t < size S → i < t → g (bit_length (length ws) S.k t + 3 + 20 * i) 20 ≡ get_or (tide S t).row i 0

square : (m : ℕ) → suc m * (suc m - 1) ≡ m * (m - 1) + 2 * m
square zero = refl
square (suc m) =
    let e : suc (suc m) - 1 ≡ suc m = omega arith in
    let d : suc m - 1 ≡ m = omega arith in
    rw (e, d) (omega (arith, suc-mul (suc m) (suc m), mul-suc (suc m) m))

-- one tide more
pub bit_length_suc : (c k t : ℕ) → bit_length c k (suc t) ≡ bit_length c k t + (3 + 20 * t)
unfolding bit_length
bit_length_suc c k t = omega (arith, square t)

tide_total : (x : Tide) → total (tide_fields x) ≡ 3 + 20 * length x.row
unfolding tide_fields
tide_total x = omega (arith, values_total 20 x.row)

module _ (m : ℕ) (ws : List ℕ) (S : Study) (shaped : Shaped S) where
  abbrev start : ℕ → ℕ
  start t = bit_length (length ws) S.k t

  abbrev first : List ℕ
  first = take S.k S.minima.b

  -- the fields after b0: the counts, and the rest
  abbrev counted : List Field
  counted = map (field 16) ws

  abbrev small : List Field
  small = map (field 7) (take S.k S.minima.b)

  abbrev of_tides : List Field
  of_tides = flat_map tide_fields S.tides

  first_length : length first ≡ S.k
  first_length = length-take-le S.k S.minima.b shaped.minima

  begins : StartsWith tide_fields no_tide start S.tides
  unfolding tide
  begins t l = bit_length_suc (length ws) S.k t ∙ ap (λ x. start t + x) (sym (tide_total (tide S t) ∙ ap (λ x. 3 + 20 * x) (shaped.rows t l)))

  -- the minima begin where the counts end, the tides where the minima end
  minima_begin : 26 + total counted ≡ counts_end (length ws)
  minima_begin = omega (arith, values_total 16 ws)

  tides_begin : counts_end (length ws) + total small ≡ start 0
  unfolding bit_length
  tides_begin = omega (arith, values_total 7 first, first_length)

  -- the bits of all fields
  pub fields_total : total (fields m ws S) ≡ bit_length (length ws) S.k (size S)
  unfolding fields
  fields_total =
      let last = runs_total tide_fields no_tide start S.tides begins in
      omega (arith, total_append counted (small ++ of_tides), total_append small of_tides, minima_begin, tides_begin, last)

  counts : (g : ℕ → ℕ → ℕ) → Agrees g 26 counted ↔ ((i : ℕ) → i < length ws → g (counts_end i) 16 ≡ get_or ws i 0)
  counts g = values_agree 16 ws g 26

  minima : (g : ℕ → ℕ → ℕ)
      → Agrees g (counts_end (length ws)) small ↔ ((j : ℕ) → j < S.k → g (counts_end (length ws) + 7 * j) 7 ≡ get_or S.minima.b j 0)
  minima g =
      let r = values_agree 7 first g (counts_end (length ws)) in
      let n = first_length in (
        λ a j l. r.0 a j (omega arith) ∙ get_or-take S.k S.minima.b j 0 l,
        λ f. r.1 (λ j l. let h : j < S.k = omega arith in f j h ∙ sym (get_or-take S.k S.minima.b j 0 h)),
      )

  row : (g : ℕ → ℕ → ℕ) (t : ℕ) → t < size S
      → Agrees g (start t + 3) (map (field 20) (tide S t).row) ↔ ((i : ℕ) → i < t → g (start t + 3 + 20 * i) 20 ≡ get_or (tide S t).row i 0)
  row g t l =
      let r = values_agree 20 (tide S t).row g (start t + 3) in
      let n = shaped.rows t l in (λ a i m. r.0 a i (omega arith), λ f. r.1 (λ i m. f i (omega arith)))

  -- the fields from the counts on
  record After (g : ℕ → ℕ → ℕ) : Type 0 where
    of_counts : Agrees g 26 counted
    of_minima : Agrees g (counts_end (length ws)) small
    each : (t : ℕ) → t < size S → Agrees g (start t) (tide_fields (tide S t))

  after-T : (g : ℕ → ℕ → ℕ) → Agrees g 26 (counted ++ (small ++ of_tides)) ↔ After g
  unfolding tide
  after-T g =
      let three = agrees_append g 26 counted (small ++ of_tides) in
      let two = agrees_append g (counts_end (length ws)) small of_tides in
      let runs = runs_agree tide_fields no_tide g start S.tides begins in (
        λ a. let split = three.0 a in
            let rest = two.0 (subst (λ p. Agrees g p (small ++ of_tides)) minima_begin split.1) in
            record {
              of_counts = split.0;
              of_minima = rest.0;
              each = runs.0 (subst (λ p. Agrees g p of_tides) tides_begin rest.1);
            },
        λ A. three.1 (
          A.of_counts,
          subst (λ p. Agrees g p (small ++ of_tides)) (sym minima_begin)
              (two.1 (A.of_minima, subst (λ p. Agrees g p of_tides) (sym tides_begin) (runs.1 A.each))),
        ),
      )

  pub laid-T : (g : ℕ → ℕ → ℕ) → Agrees g 0 (fields m ws S) ↔ Laid g m ws S
  unfolding fields tide_fields
  laid-T g = (
    λ a. let A = (after-T g).0 a.1.1.1.1 in
        record {
          mark = a.0;
          tides = a.1.0;
          k = a.1.1.0;
          b0 = a.1.1.1.0;
          counts = (counts g).0 A.of_counts;
          minima = (minima g).0 A.of_minima;
          settings = λ t l. (A.each t l).0;
          rows = λ t i l. (row g t l).0 (A.each t l).1 i;
        },
    λ h. let A = (after-T g).1 record {
      of_counts = (counts g).1 h.counts;
      of_minima = (minima g).1 h.minima;
      each = λ t l. (h.settings t l, (row g t l).1 (λ i. h.rows t i l));
    } in (h.mark, (h.tides, (h.k, (h.b0, A)))),
  )
