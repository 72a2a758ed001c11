-- Read's reasons before any tide, at each way out of the code, and the record that a file gives. Assumes nothing.
use Prim.Native.Nat.{ℕ, zero, suc, ◌+◌, ◌-◌, ◌*◌, ◌/◌, ◌≤◌, ◌<◌}
use native.Mathlib.Omega.{arith}
use mathlib.Core.Path.{◌≡◌, refl, sym, ap, ap₂, ◌∙◌, subst}
use mathlib.Core.Logic.{inl, inr}
use mathlib.Core.Bool.{Bool, true, false, cond, not, ◌&&◌, ◌||◌}
use mathlib.Core.List.{List, ◌++◌}
use lib.Dec.{ltb, eqb, lt→ltb}
use lib.Arith.{le→nltb}
use lib.ListN.{length, drop, replicate}
use borrow.Author.Tests.{eq-eqb, ne_eqb, eqb-true, not-true, not-false}
use Rattle.std.specs.Prelude.{Result, Ok, Err}
use Rattle.lists.specs.Lists.{between, tabulate, overwrite}
use Rattle.lists.proofs.Tests.{T_true, T_false}
use Rattle.study.specs.declared.Minima.{Minima}
use Rattle.study.specs.declared.Dataset.{Dataset}
use Rattle.study.specs.declared.Refusal.{Refusal}
use Rattle.study.specs.Study.{size, valid_minima}
use Rattle.study.specs.Refusals.{number, Verdict, accepted, refused, numbered, first_of}
use Rattle.file_format.specs.Bits.{bits_at}
use Rattle.file_format.specs.File.{new_mark, old_mark, counts_end, bit_length, byte_length, counts_under, mark_of, counts_in, counts_at}
use Rattle.file_format.specs.File.{minima_at, decoded, head_reasons}
use Rattle.file_format.proofs.DecodedLaws.{counts_few, decoded_size}
use Rattle.file_format.proofs.ReadLaws.{either-T, unless-T}
use Rattle.bit_reader.specs.declared.Place.{Place}
use Rattle.bit_reader.specs.Fields.{BitsRead, FieldGot}
use Rattle.bit_reader.proofs.FieldLaws.{bits_same}
use Rattle.validity.specs.Memory.{set_k, set_size, set_minima, set_counts, record_of}
use Rattle.lists.proofs.Scans.{between_in}
use Rattle.file_fields.proofs.Lengths.{length_sum}
use Rattle.file_fields.specs.declared.head.Start.{Start}
use Rattle.file_fields.proofs.AdvanceLaws.{never_err, same_ok, same_err}
use Rattle.file_fields.specs.Heading.{MarkRead, Marked, Begun, StartGot, count_at, minimum_at, RecordBegins, RecordRead, HeadRecord, HeadGot}

-- ---- the minima and the record

drop_replicate : (x k n : ℕ) → drop k (replicate n x) ≡ replicate (n - k) x
drop_replicate x zero n = let e : n ≡ n - 0 = omega arith in ap (λ m. replicate m x) e
drop_replicate x (suc k) zero = let e : 0 ≡ 0 - suc k = omega arith in ap (λ m. replicate m x) e
drop_replicate x (suc k) (suc n) = let e : n - k ≡ suc n - suc k = omega arith in drop_replicate x k n ∙ ap (λ m. replicate m x) e

pub minima_read : (s : List ℕ) (k : ℕ) {b0 : ℕ} {b : List ℕ} → b0 ≡ bits_at s 19 7 → b ≡ overwrite k (minimum_at s) (replicate 8 0)
    → ◌≡◌ {A = Minima} (record { b0 = b0; b = b }) (minima_at s k)
unfolding minima_at overwrite
minima_read s k {b0} {b} e f =
    ap₂ (λ (x : ℕ) (y : List ℕ). record { b0 = x; b = y }) e (f ∙ ap (λ ys. tabulate k (minimum_at s) ++ ys) (drop_replicate 0 k 8))

pub counts_read : (s : List ℕ) {c : ℕ} {ws : List ℕ} → c ≡ counts_in s → ws ≡ overwrite c (count_at s) (replicate 4 0) → ws ≡ counts_at s
unfolding counts_at overwrite
counts_read s {c} e f =
    f ∙ ap (λ ys. tabulate c (count_at s) ++ ys) (drop_replicate 0 c 4) ∙ ap (λ x. tabulate x (count_at s) ++ replicate (4 - x) 0) e

pub record_read : {s : List ℕ} {c k n : ℕ} {p : Place} → RecordBegins s c k n p → {ws : List ℕ} {M : Minima} {q : Place} → ws ≡ counts_at s
    → M ≡ minima_at s k → BitsRead q (counts_end (counts_in s) + 7 * k) → RecordRead s (Ok (record { k = k; n = n; minima = M; withdrawn = ws })) q
unfolding record_of decoded bit_length
record_read {s} {c} {k} {n} R {ws} {M} counts e here =
    let B = R.begun in
    let f : M ≡ minima_at s (bits_at s 15 4) = e ∙ ap (minima_at s) B.k_is in
    let tides : n ≡ size (decoded s).study = B.tides ∙ sym (decoded_size s) in
    record {
      dataset = record { k = k; n = n; minima = M; withdrawn = ws };
      is = refl;
      gives = record {
        is = λ r i. set_k (B.k_is i) (set_size (tides i) (set_minima (f i) (set_counts (counts i) r)));
        first = bits_same here (omega (arith, B.k_is));
      };
    }

-- the record that was read
pub record_got : {s : List ℕ} {r : Result Dataset Refusal} {p : Place} {next : Dataset} → RecordRead s r p → r ≡ Ok next → HeadRecord s next p
record_got {s} {p = p} R e = subst (λ (x : Dataset). HeadRecord s x p) (same_ok (sym R.is ∙ e)) R.gives

-- ---- the reasons, in order

-- the tests of these reasons, where they have passed
past_8 : (s : List ℕ) → 6 ≤ length s → ltb (length s) 6 ≡ false
past_8 s h = T_false (ltb (length s) 6) (le→nltb (length s) 6 h)

past_9 : {s : List ℕ} {c : ℕ} → MarkRead s c → (eqb (mark_of s) new_mark || eqb (mark_of s) old_mark) ≡ true
past_9 {s} M = T_true _ ((either-T (mark_of s) new_mark old_mark).1 M.mark)

past_12 : {s : List ℕ} {c : ℕ} → MarkRead s c → (eqb (mark_of s) new_mark && ltb (length s) 12) ≡ false
past_12 {s} M = T_false _ ((unless-T (mark_of s) new_mark (length s) 12).1 M.twelve)

past_10 : (s : List ℕ) {n : ℕ} → n ≡ bits_at s 8 7 → n ≤ 120 → ltb 120 (bits_at s 8 7) ≡ false
past_10 s e h = T_false (ltb 120 (bits_at s 8 7)) (le→nltb 120 (bits_at s 8 7) (subst (λ z. z ≤ 120) e h))

-- the start is refused, or read
module _ {s : List ℕ} {p : Place} where
  pub start_stops : {why : Refusal} → refused (numbered why) ≡ first_of (head_reasons s) → StartGot s (Err why) p
  start_stops e =
      record { goes = λ q. absurd (never_err (sym q)); stops = λ q. ap (λ x. refused (numbered x)) (sym (same_err {A = Start} q)) ∙ e }

  pub start_goes : {start : Start} → Begun s start.counts start.k start.n → BitsRead p 19 → StartGot s (Ok start) p
  start_goes B here =
      record {
        goes = λ q. (subst (λ (x : Start). Begun s x.counts x.k x.n) (same_ok q) B, here);
        stops = λ q. absurd (never_err q);
      }

pub start_short : (s : List ℕ) → length s < 6 → refused (number 8) ≡ first_of (head_reasons s)
unfolding head_reasons first_of
start_short s l = rw (T_true (ltb (length s) 6) (lt→ltb (length s) 6 l)) refl

module _ {s : List ℕ} {m : ℕ} (six : 6 ≤ length s) (g : FieldGot s 0 8 m) where
  -- one count
  pub marked_old : {p : Place} → BitsRead p 8 → m ≡ old_mark → Marked s 1 p
  unfolding counts_under
  marked_old here e =
      let old : mark_of s ≡ old_mark = sym g.is ∙ e in
      record {
        marked = record { six = six; mark = inr old; twelve = λ new. omega arith; counts = sym (ap counts_under old) };
        here = here;
      }

  pub start_mark : (m ≡ old_mark → ⊥) → (m ≡ new_mark → ⊥) → refused (number 9) ≡ first_of (head_reasons s)
  unfolding head_reasons first_of
  start_mark f h =
      rw (past_8 s six, ne_eqb (mark_of s) new_mark (λ e. h (g.is ∙ e)), ne_eqb (mark_of s) old_mark (λ e. f (g.is ∙ e))) refl

  module _ (e : m ≡ new_mark) where
    new : mark_of s ≡ new_mark
    new = sym g.is ∙ e

    pub start_twelve : length s < 12 → refused (number 8) ≡ first_of (head_reasons s)
    unfolding head_reasons first_of
    start_twelve l = rw (past_8 s six, eq-eqb (mark_of s) new_mark new, T_true (ltb (length s) 12) (lt→ltb (length s) 12 l)) refl

    -- a count for each user
    pub marked_new : {p : Place} → BitsRead p 8 → 12 ≤ length s → Marked s 4 p
    unfolding counts_under
    marked_new here l =
        record { marked = record { six = six; mark = inl new; twelve = λ _. l; counts = sym (ap counts_under new) }; here = here }

module _ {s : List ℕ} {c : ℕ} (M : MarkRead s c) {n : ℕ} (g : FieldGot s 8 7 n) where
  pub start_count : 120 < n → refused (number 10) ≡ first_of (head_reasons s)
  unfolding head_reasons first_of
  start_count l =
      let many : ltb 120 (bits_at s 8 7) ≡ true = T_true _ (lt→ltb 120 (bits_at s 8 7) (subst (λ z. 120 < z) g.is l)) in
      rw (past_8 s M.six, past_9 M, past_12 M, many) refl

  module _ (few : n ≤ 120) {k : ℕ} (h : FieldGot s 15 4 k) where
    pub start_k : between 1 8 k ≡ false → refused (number 2) ≡ first_of (head_reasons s)
    unfolding head_reasons first_of
    start_k f = rw (past_8 s M.six, past_9 M, past_12 M, past_10 s g.is few, ap (between 1 8) (sym h.is) ∙ f) refl

    pub begun : 1 ≤ k → k ≤ 8 → Begun s c k n
    begun l u = record { marked = M; tides = g.is; few = few; k_is = h.is; low = l; high = u }

-- ---- the length, the minima and the last byte

pub few_counts : {s : List ℕ} {c : ℕ} → MarkRead s c → c ≤ 4
few_counts {s} M = omega (arith, M.counts, counts_few s)

-- the file has the length that c, k and n say
pub record Whole (s : List ℕ) (c k n : ℕ) : Type 0 where
  pub begun : Begun s c k n
  pub long : length s ≡ byte_length c k n

-- and its minima are valid
pub record HeadSound (s : List ℕ) (c k n : ℕ) : Type 0 where
  pub whole : Whole s c k n
  pub minima : valid_minima k (minima_at s k) ≡ true

-- what the last three tests answer
abbrev left : Bool → Bool → Bool → Verdict
left long good fill =
    cond (not long) (refused (number 8)) (cond (not good) (refused (number 3)) (cond (not fill) (refused (number 11)) accepted))

module _ {s : List ℕ} {c k n : ℕ} where
  by_tests : Begun s c k n → (long good fill : Bool) → eqb (length s) (byte_length c k n) ≡ long → valid_minima k (minima_at s k) ≡ good
      → eqb (bits_at s (bit_length c k n) (8 * length s - bit_length c k n)) 0 ≡ fill → left long good fill ≡ first_of (head_reasons s)
  unfolding head_reasons first_of
  by_tests B long good fill a b e =
      let M = B.marked in
      rw (
        past_8 s M.six,
        past_9 M,
        past_12 M,
        past_10 s B.tides B.few,
        subst (λ z. between 1 8 z ≡ true) B.k_is (between_in 1 8 k B.low B.high),
        numbers (λ x y z. eqb (length s) (byte_length x y z)) ∙ a,
        ap (λ x. valid_minima x (minima_at s x)) (sym B.k_is) ∙ b,
        numbers (λ x y z. eqb (bits_at s (bit_length x y z) (8 * length s - bit_length x y z)) 0) ∙ e,
      )
    where
      -- what is said of the file's numbers is said of c, k and n
      numbers : {A : Type 0} (f : ℕ → ℕ → ℕ → A) → f (counts_in s) (bits_at s 15 4) (bits_at s 8 7) ≡ f c k n
      numbers f = λ i. f (sym B.marked.counts i) (sym B.k_is i) (sym B.tides i)

  module _ (B : Begun s c k n) {bits : ℕ} (e : bits ≡ bit_length c k n) {v : Bool} (tested : v ≡ eqb (length s) ((bits + 7) / 8)) where
    long_test : {b : Bool} → v ≡ b → eqb (length s) (byte_length c k n) ≡ b
    unfolding byte_length
    long_test q = ap (λ x. eqb (length s) ((x + 7) / 8)) (sym e) ∙ sym tested ∙ q

    pub head_length : not v ≡ true → refused (number 8) ≡ first_of (head_reasons s)
    head_length q = by_tests B false _ _ (long_test (not-true v q)) refl refl

    pub whole : not v ≡ false → Whole s c k n
    whole q = record { begun = B; long = eqb-true (length s) (byte_length c k n) (long_test (not-false v q)) }

  module _ (W : Whole s c k n) where
    abbrev B : Begun s c k n
    B = W.begun

    is_long : eqb (length s) (byte_length c k n) ≡ true
    is_long = eq-eqb (length s) (byte_length c k n) W.long

    -- the fields before the tides are inside, and the last byte begins before the end
    pub record_begins : {p : Place} → BitsRead p 19 → RecordBegins s c k n p
    unfolding byte_length
    record_begins here =
        let t = length_sum c k n (few_counts B.marked) B.high B.few in
        record { begun = B; here = here; inside = omega (arith, W.long, t.first) }

    pub fill_inside : {end : ℕ} → end ≡ bit_length c k n → (end ≤ 8 * length s) × (8 * length s < end + 8) × (end ≤ 143306)
    unfolding byte_length
    fill_inside q =
        let t = length_sum c k n (few_counts B.marked) B.high B.few in
        (omega (arith, W.long), omega (arith, W.long), omega (arith, t.most))

    module _ {next : Dataset} {p : Place} (H : HeadRecord s next p) {v : Bool} (tested : v ≡ valid_minima next.k next.minima) where
      good : {b : Bool} → v ≡ b → valid_minima k (minima_at s k) ≡ b
      unfolding record_of decoded
      good q =
          ap (λ x. valid_minima x (minima_at s x)) B.k_is
          ∙ sym (ap (λ (r : Dataset). valid_minima r.k r.minima) (H.is next))
          ∙ sym tested ∙ q

      pub head_minima : not v ≡ true → refused (number 3) ≡ first_of (head_reasons s)
      head_minima q = by_tests B true false _ is_long (good (not-true v q)) refl

      pub sound : not v ≡ false → HeadSound s c k n
      sound q = record { whole = W; minima = good (not-false v q) }

  module _ (G : HeadSound s c k n) {end : ℕ} (ends : end ≡ bit_length c k n) {w : Bool} (fill : w ≡ eqb (bits_at s end (8 * length s - end)) 0) where
    filled : {b : Bool} → w ≡ b → eqb (bits_at s (bit_length c k n) (8 * length s - bit_length c k n)) 0 ≡ b
    filled q = ap (λ p. eqb (bits_at s p (8 * length s - p)) 0) (sym ends) ∙ sym fill ∙ q

    pub head_fill : not w ≡ true → refused (number 11) ≡ first_of (head_reasons s)
    head_fill q = by_tests G.whole.begun true true false (is_long G.whole) G.minima (filled (not-true w q))

    pub head_done : not w ≡ false → accepted ≡ first_of (head_reasons s)
    head_done q = by_tests G.whole.begun true true true (is_long G.whole) G.minima (filled (not-false w q))

-- ---- what the code answers

module _ {s : List ℕ} {p : Place} where
  pub head_stops : {why : Refusal} → refused (numbered why) ≡ first_of (head_reasons s) → HeadGot s (Err why) p
  head_stops e =
      record { goes = λ q. absurd (never_err (sym q)); stops = λ q. ap (λ x. refused (numbered x)) (sym (same_err {A = Dataset} q)) ∙ e }

  pub head_goes : {next : Dataset} → accepted ≡ first_of (head_reasons s) → HeadRecord s next p → HeadGot s (Ok next) p
  head_goes e H = record { goes = λ q. (e, subst (λ x. HeadRecord s x p) (same_ok q) H); stops = λ q. absurd (never_err q) }
