-- A row of distances taken from a file into memory and tested, and what a tide makes of the reading. Assumes nothing.
use Prim.Native.Nat.{ℕ, suc, ◌+◌, ◌*◌, ◌≤◌, ◌<◌}
use native.Mathlib.Omega.{arith}
use native.Mathlib.Numerals.{add-one}
use mathlib.Core.Path.{◌≡◌, refl, sym, ap, ap₂, ◌∙◌, subst}
use mathlib.Core.List.{List, [], ◌∷◌}
use lib.ListN.{length, get_or, set}
use Rattle.std.specs.Prelude.{Option, Some, None, Result, Ok, Err}
use Rattle.lists.proofs.Tables.{length_tabulate, get_d_tabulate}
use Rattle.study.specs.Limits.{cell}
use Rattle.study.specs.declared.Refusal.{Refusal}
use Rattle.study.specs.declared.Refusal.TheVariants as RefusalCase
use Rattle.study.specs.Refusals.{seven, accepted, refused, verdict_of}
use Rattle.study.specs.Calls.{Pair, violations}
use Rattle.file_format.specs.Bits.{bits_at}
use Rattle.file_format.specs.File.{bit_length, byte_length, counts_in, tide_at}
use Rattle.bit_reader.specs.declared.Place.{Place}
use Rattle.bit_reader.specs.Fields.{BitsRead, FieldGot}
use Rattle.bit_reader.proofs.FieldLaws.{bits_same}
use Rattle.triangle.specs.Pairs.{violation_of}
use Rattle.triangle.proofs.PairLaws.{row_in, part_found}
use Rattle.file_format.proofs.FileLaws.{bit_length_suc}
use Rattle.file_format.proofs.DecodedLaws.{counts_few}
use Rattle.storage.specs.Places.{with_row}
use Rattle.storage.proofs.PlaceLaws.{row_more}
use Rattle.file_fields.proofs.Lengths.{length_sum, bit_length_up}
use Rattle.file_fields.specs.Loading.{Loaded, Reading, TidesRead, TideRead, violation_verdict}
use Rattle.file_fields.proofs.AdvanceLaws.{never_err}
use Rattle.file_fields.proofs.LoadingLaws.{reached, stopped, turn_five, turn_seven, turn_next}
use Rattle.file_fields.specs.Rows.{row_record, row_start, RowInside, RowBegins}

-- ---- taken

pub row_taken : (s : List ℕ) (start : ℕ) {t i x : ℕ} (l : List ℕ) {matrix : List ℕ} → i < t → FieldGot s (start + 20 * i) 20 x
    → matrix ≡ with_row (row_record s start t) i l → set (set matrix (t * 120 + i) x) (i * 120 + t) x ≡ with_row (row_record s start t) (i + 1) l
row_taken s start {t} {i} {x} l {matrix} h g e =
    ap₂ (λ (n v : ℕ). set (set matrix (n * 120 + i) v) (i * 120 + n) v)
    (sym (length_tabulate t _)) (g.is ∙ sym (get_d_tabulate t _ i 0 h))
    ∙ row_more (row_record s start t) l i e

-- ---- tested

pair_told : (ps : List Pair) (i j : ℕ) → violation_of ps ≡ Some (i, j) → refused (seven i j) ≡ violation_verdict ps
pair_told [] i j e = cc
pair_told (p ∷ ps) i j e =
    let same : ◌≡◌ {A = ℕ × ℕ} (suc p.lower, suc p.upper) (i, j) = cc in
    ap (λ (q : ℕ × ℕ). refused (seven q.0 q.1)) (sym same)

none_told : (ps : List Pair) → violation_of ps ≡ None → accepted ≡ violation_verdict ps
none_told [] e = refl
none_told (p ∷ ps) e = cc

-- of tide t's row as a part of the memory
module _ (d : List ℕ) (t : ℕ) (fits : 14400 ≤ length d) (few : t < 120) {r : Option (ℕ × ℕ)}
    (e : r ≡ violation_of (violations (cell d) (length (row_in d t)) (λ i. get_or (row_in d t) i 0))) where
  pub row_violates : {i j : ℕ} → r ≡ Some (i, j) → refused (seven i j) ≡ violation_verdict (violations (cell d) t (cell d t))
  row_violates {i} {j} q = pair_told (violations (cell d) t (cell d t)) i j (sym (part_found d t fits few e) ∙ q)

  pub row_obeys : r ≡ None → accepted ≡ violation_verdict (violations (cell d) t (cell d t))
  row_obeys q = none_told (violations (cell d) t (cell d t)) (sym (part_found d t fits few e) ∙ q)

-- ---- a tide, at each way out of the code

-- the first t tides are read, and the fields of the next one are inside the file
pub record AtTide (s : List ℕ) (k t : ℕ) (p : Place) (matrix vector : List ℕ) : Type 0 where
  pub read : TidesRead s t p matrix vector
  pub k_is : k ≡ bits_at s 15 4
  pub more : t < bits_at s 8 7
  pub setting : bit_length (counts_in s) (bits_at s 15 4) t + 3 ≤ 8 * length s
  pub low : bit_length (counts_in s) (bits_at s 15 4) t ≤ 143306
  pub row : RowInside s matrix (row_start s t) t

pub at_tide : {s : List ℕ} {k t : ℕ} {p : Place} {matrix vector : List ℕ}
    → (k ≡ bits_at s 15 4) × (t < bits_at s 8 7) × TidesRead s t p matrix vector → AtTide s k t p matrix vector
unfolding byte_length
at_tide {s} {k} {t} pre =
    let h = pre.2.loaded.head in
    let up = bit_length_up (counts_in s) (bits_at s 15 4) t (bits_at s 8 7) pre.1 in
    let few : t ≤ 120 = omega (arith, h.few, pre.1) in
    let sum = length_sum (counts_in s) (bits_at s 15 4) t (counts_few s).1 h.k_high few in
    record {
      read = pre.2;
      k_is = pre.0;
      more = pre.1;
      setting = omega (arith, h.long);
      low = sum.most;
      row = record {
        few = omega (arith, h.few, pre.1);
        long = pre.2.loaded.long;
        inside = omega (arith, h.long);
        low = omega (arith, sum.most);
      };
    }

module _ {s : List ℕ} {k t : ℕ} {p : Place} {matrix vector : List ℕ} (A : AtTide s k t p matrix vector) {less : ℕ}
    (g : FieldGot s (bit_length (counts_in s) (bits_at s 15 4) t) 3 less) where
  abbrev loaded : Loaded s t matrix vector
  loaded = A.read.loaded

  -- no place follows a refusal
  refused_tide : {why : Refusal} {q : Place} {m v : List ℕ} → Reading s (t + 1) (Err why) m v → TideRead s (t + 1) (Err why) q m v
  refused_tide R = record { reading = R; past = λ e. absurd (never_err (sym e)) }

  pub tide_five : {q : Place} → k ≤ less → TideRead s (t + 1) (Err RefusalCase.Setting) q matrix vector
  tide_five h = refused_tide (stopped (turn_five s t A.more matrix vector loaded less g.is (omega (arith, A.k_is))))

  pub row_begins : {q : Place} → BitsRead q (bit_length (counts_in s) (bits_at s 15 4) t + 3) → RowBegins s matrix t q
  row_begins here = record { here = here; inside = A.row }

  small : less < k → less < bits_at s 15 4
  small fits = omega (arith, A.k_is)

  laid : {new : List ℕ} → new ≡ with_row (row_record s (row_start s t) t) t matrix → new ≡ with_row (tide_at s (bits_at s 15 4) t).row t matrix
  unfolding tide_at
  laid row = row

  -- the row is in memory, the place past it is q, and it is tested
  module _ (fits : less < k) {new : List ℕ} (row : new ≡ with_row (row_record s (row_start s t) t) t matrix) {q : Place} {r : Result Unit Refusal}
      (tested : verdict_of r ≡ violation_verdict (violations (cell new) t (cell new t))) where
    pub tide_stops : {why : Refusal} → r ≡ Err why → TideRead s (t + 1) r q new vector
    tide_stops e =
        subst (λ x. TideRead s (t + 1) x q new vector) (sym e)
        (refused_tide (stopped (turn_seven s t A.more matrix vector loaded less g.is (small fits) new (laid row) r tested e)))

    pub tide_goes : r ≡ Ok tt → BitsRead q (row_start s t + 20 * t) → TideRead s (t + 1) (Ok tt) q new (set vector t (less + 1))
    tide_goes e past =
        record {
          reading = reached (turn_next s t A.more matrix vector loaded less g.is (small fits) new (laid row) r tested e);
          past = λ _. next_tide;
        }
      where
        next_tide : BitsRead q (bit_length (counts_in s) (bits_at s 15 4) (t + 1))
        next_tide =
            let one_more : bit_length (counts_in s) (bits_at s 15 4) (t + 1) ≡ bit_length (counts_in s) (bits_at s 15 4) t + (3 + 20 * t) =
            ap (bit_length (counts_in s) (bits_at s 15 4)) (add-one t) ∙ bit_length_suc (counts_in s) (bits_at s 15 4) t in
            bits_same past (omega arith)

-- ---- all tides

module _ {s : List ℕ} {t : ℕ} {p : Place} {matrix vector : List ℕ} {r : Result Unit Refusal} (R : TideRead s t r p matrix vector) where
  pub tides_stop : {n : ℕ} {why : Refusal} → r ≡ Err why → Reading s n r matrix vector
  tides_stop {n} e = subst (λ x. Reading s n x matrix vector) (sym e) (stopped (R.reading.stops _ e))

  pub tides_go : r ≡ Ok tt → TidesRead s t p matrix vector
  tides_go e = record { loaded = R.reading.goes e; here = R.past e }

pub reached_all : {s : List ℕ} {t n : ℕ} {p : Place} {matrix vector : List ℕ} → t ≡ n → TidesRead s t p matrix vector
    → Reading s n (Ok tt) matrix vector
reached_all {s} {matrix = matrix} {vector} e R = reached (subst (λ z. Loaded s z matrix vector) e R.loaded)
