-- The text of a valid study is short enough to be read: its lines, byte by byte. Assumes nothing.
use Prim.Native.Nat.{ℕ, suc, ◌+◌, ◌*◌, ◌≤◌, ◌<◌}
use native.Mathlib.Omega.{arith}
use mathlib.Core.List.{List, [], ◌∷◌, ◌++◌, flat_map}
use lib.ListN.{length, get_or, length-append}
use Rattle.metric_closure.specs.Tables.{InRange}
use Rattle.study.specs.Study.{Study, size, no_tide, tide, Valid}
use Rattle.sheet_text.specs.Text.{spaced}
use Rattle.sheet_text.proofs.NumberLaws.{decimal_short}
use Rattle.closure_text.specs.Text.{number_line, tide_line, study_text, lowered_line}
use Rattle.closure_text.proofs.LineLaws.{number_short, range_none}
use Rattle.closure_text.proofs.ReadBack.{b_of, tide_range, minima_fit, b_long, b_near}

-- parts of at most m bytes
parts_short : {A : Type 0} (f : A → List ℕ) (d : A) (m : ℕ) (xs : List A) → ((i : ℕ) → i < length xs → length (f (get_or xs i d)) ≤ m)
    → length (flat_map f xs) ≤ length xs * m
unfolding flat_map
parts_short f d m [] h = omega arith
parts_short f d m (x ∷ xs) h =
    omega (arith, length-append (f x) (flat_map f xs), h 0 (omega arith), parts_short f d m xs (λ i l. h (suc i) (omega arith)))

spaced_short : (x : ℕ) → x ≤ 1048575 → length (spaced x) ≤ 8
unfolding spaced
spaced_short x h = omega (arith, number_short x h)

-- a number and the byte after it are at most eight bytes
line_short : (x : ℕ) (xs : List ℕ) → x ≤ 1048575 → InRange (length xs) xs → length (number_line x xs) ≤ 8 + length xs * 8
unfolding number_line
line_short x xs h R =
    simp length-append (omega (arith, number_short x h, parts_short spaced 0 8 xs (λ i l. spaced_short (get_or xs i 0) (R.near i l))))

comment_short : (m : ℕ) → m < 4294967296 → length (lowered_line m) ≤ 27
unfolding lowered_line
comment_short m h = simp length-append (omega (arith, decimal_short 9 m (omega arith)))

module _ (S : Study) (ok : Valid S) where
  -- 120 numbers at most
  tide_short : (t : ℕ) → t < size S → length (tide_line (tide S t)) ≤ 960
  unfolding tide_line
  tide_short t h =
      let long = ok.row_length t h in
      let set : (tide S t).setting ≤ 1048575 = omega (arith, ok.setting_high t h, ok.k_high) in
      omega (arith, line_short (tide S t).setting (tide S t).row set (tide_range S ok t h), ok.few)

  tides_short : length (flat_map tide_line S.tides) ≤ size S * 960
  unfolding tide
  tides_short = parts_short tide_line no_tide 960 S.tides tide_short

  -- one number, and nine at most, before the tides
  study_short : length (study_text S) ≤ 80 + size S * 960
  unfolding study_text
  study_short =
      let k = line_short S.k [] (omega (arith, ok.k_high)) (range_none []) in
      let minima = line_short S.minima.b0 (b_of S) (omega (arith, (minima_fit S ok).high)) (b_near S ok) in
      simp length-append (omega (arith, k, minima, b_long S ok, ok.k_high, tides_short))

-- the comment, and a valid study after it
pub text_short : (pairs : ℕ) (S : Study) → pairs < 4294967296 → Valid S → length (lowered_line pairs ++ study_text S) ≤ 131072
text_short pairs S few ok = simp length-append (omega (arith, comment_short pairs few, study_short S ok, ok.few))
