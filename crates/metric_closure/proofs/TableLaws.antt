-- A table in memory, n rows of n: places of rows, what each turn of the loops leaves, and that in the end it is the closure.
-- Assumes nothing.
use Prim.Native.Nat.{ℕ, zero, suc, ◌+◌, ◌-◌, ◌*◌, ◌/◌, ◌%◌, ◌≤◌, ◌<◌, min}
use native.Mathlib.Nat.{mul-le-mul, mul-le-mul_right, div-add-mod', div-lt_iff_lt-mul, mod-lt}
use native.Mathlib.Nat.{mul-add-div_right, mul-add-mod_self_right, div-eq_of_lt, mod-eq_of_lt}
use native.Mathlib.Omega.{arith}
use native.Mathlib.Numerals.{add-one}
use mathlib.Core.Path.{◌≡◌, refl, sym, ap, ap₂, ◌∙◌, subst}
use mathlib.Core.Logic.{⊎_elim}
use mathlib.Core.Bool.{Bool, true, false}
use mathlib.Core.List.{List, ◌++◌}
use lib.Dec.{ltb, eqb}
use lib.ListN.{length, take, drop, get_or, set, length-append, length-take, length-drop, get_or-append}
use lib.Seq.{ext_get_or, get_or-append-add, get_or-take, get_or-drop}
use mir.Val.{bool_byte}
use Rattle.lists.specs.Lists.{bit, every, sum_below, count_below, overwrite}
use Rattle.lists.proofs.Tests.{split}
use Rattle.lists.proofs.Counts.{sum_zero, count_same, count_most}
use Rattle.lists.proofs.Tables.{length_overwrite, getD_overwrite, get_d_past, overwrite_step, overwrite_read}
use Rattle.lists.proofs.Scans.{every_done, sum_more}
use Rattle.metric_closure.specs.Closure.{by_way_of, closure, nearer_pairs}
use Rattle.metric_closure.specs.Call.{entry, symmetric_row, closed_table}
use Rattle.metric_closure.specs.Tables.{Fits, InRange, lesser_way, Lowered}
use Rattle.metric_closure.proofs.ClosureLaws.{by_is, closure_none, closure_min, closure_below}

-- ---- places

-- a row ends where the next begins, and the last within the table
pub row_ends : (n i : ℕ) → i < n → i * n + n ≤ n * n
row_ends n i l = let h : suc i * n ≤ n * n = mul-le-mul_right n l in omega arith

-- 120 rows of 120 at most
pub few_places : (n : ℕ) → n ≤ 120 → n * n ≤ 14400
few_places n h = let r : n * n ≤ 120 * 120 = mul-le-mul h h in omega arith

-- place p, in the first k rows
pub record InRow (n k p : ℕ) : Type 0 where
  pub row : p / n < k
  pub column : p % n < n
  pub place : p / n * n + p % n ≡ p

pub in_row : (n k p : ℕ) → p < k * n → InRow n k p
in_row n k p l =
    let some_row : 0 < n = positive n l in
    record { row = (div-lt_iff_lt-mul some_row).1 l; column = mod-lt p some_row; place = div-add-mod' p n }
  where
    positive : (n : ℕ) → p < k * n → 0 < n
    positive zero l = absurd (omega arith)
    positive (suc n) l = omega arith

-- a table that is written row by row
pub rows_at : (n : ℕ) (l : List ℕ) (f : ℕ → ℕ → ℕ) (i j : ℕ) → i < n → j < n → entry n (overwrite (n * n) (λ p. f (p / n) (p % n)) l) i j ≡ f i j
rows_at n l f i j a b =
    let some_tide : 0 < n = omega arith in
    let row : (i * n + j) / n ≡ i = mul-add-div_right some_tide i j ∙ ap (λ (z : ℕ). i + z) (div-eq_of_lt b) ∙ omega arith in
    let column : (i * n + j) % n ≡ j = mul-add-mod_self_right i n j ∙ mod-eq_of_lt b in
    getD_overwrite (λ p. f (p / n) (p % n)) l (n * n) (i * n + j) 0 (omega (arith, row_ends n i a)) ∙ ap₂ f row column

-- distances are in range where their places are, and the other way round
pub entry_near : {n : ℕ} {l : List ℕ} → InRange (n * n) l → (i j : ℕ) → i < n → j < n → entry n l i j ≤ 1048575
entry_near {n} N i j a b = N.near (i * n + j) (omega (arith, row_ends n i a))

pub places_near : (n : ℕ) (l : List ℕ) → ((i j : ℕ) → i < n → j < n → entry n l i j ≤ 1048575) → InRange (n * n) l
places_near n l h =
    record { near = λ p k. let R = in_row n n p k in subst (λ z. get_or l z 0 ≤ 1048575) R.place (h (p / n) (p % n) R.row R.column) }

-- place j after the start of row i
pub at_start : (n i : ℕ) {s : ℕ} (l : List ℕ) (j : ℕ) → s ≡ i * n → get_or l (s + j) 0 ≡ entry n l i j
at_start n i l j e = ap (λ (z : ℕ). get_or l (z + j) 0) e

-- ---- one row

-- the line holds row m
pub record LineOf (n m : ℕ) (table line : List ℕ) : Type 0 where
  pub long : n ≤ length line
  pub holds : (j : ℕ) → j < n → get_or line j 0 ≡ entry n table m j

-- row i where the way may go by tide m, whose row is the line; all else as before
pub record RowLowered (n m i : ℕ) (line old new : List ℕ) : Type 0 where
  pub long : length new ≡ length old
  pub row : (j : ℕ) → j < n → entry n new i j ≡ min (entry n old i j) (entry n old i m + get_or line j 0)
  pub before : (p : ℕ) → p < i * n → get_or new p 0 ≡ get_or old p 0
  pub after : (p : ℕ) → i * n + n ≤ p → get_or new p 0 ≡ get_or old p 0

module _ (first line : List ℕ) (far : ℕ) where
  -- one more place lowered
  pub lower_more : {row : List ℕ} {j v : ℕ} → row ≡ overwrite j (lesser_way first line far) first → v ≡ min (get_or row j 0) (far + get_or line j 0)
      → j < length first → set row j v ≡ overwrite (j + 1) (lesser_way first line far) first
  unfolding lesser_way
  lower_more {row} {j} {v} e q h =
      let same : get_or row j 0 ≡ get_or first j 0 = overwrite_read (lesser_way first line far) first 0 e j (omega arith) in
      overwrite_step (lesser_way first line far) first v e (q ∙ ap (λ (x : ℕ). min x (far + get_or line j 0)) same) h

-- these numbers put in at a place
abbrev pub splice : ℕ → List ℕ → List ℕ → ℕ → List ℕ
splice a ys l k = take a l ++ (ys ++ drop k (drop a l))

module _ (a : ℕ) (ys l : List ℕ) (k : ℕ) (e : length ys ≡ k) (h : a + k ≤ length l) where
  long_front : length (take a l) ≡ a
  long_front = simp length-take (omega arith)

  splice_long : length (splice a ys l k) ≡ length l
  splice_long = simp (length-append, length-take, length-drop) (omega arith)

  splice_before : (p : ℕ) → p < a → get_or (splice a ys l k) p 0 ≡ get_or l p 0
  splice_before p q = get_or-append (take a l) (ys ++ drop k (drop a l)) 0 p (omega (arith, long_front)) ∙ get_or-take a l p 0 q

  -- the place j after a
  past_front : (j : ℕ) → get_or (splice a ys l k) (a + j) 0 ≡ get_or (ys ++ drop k (drop a l)) j 0
  past_front j =
      ap (λ (z : ℕ). get_or (splice a ys l k) (z + j) 0) (sym long_front) ∙ get_or-append-add (take a l) (ys ++ drop k (drop a l)) j 0

  splice_in : (j : ℕ) → j < k → get_or (splice a ys l k) (a + j) 0 ≡ get_or ys j 0
  splice_in j q = past_front j ∙ get_or-append ys (drop k (drop a l)) 0 j (omega arith)

  splice_after : (p : ℕ) → a + k ≤ p → get_or (splice a ys l k) p 0 ≡ get_or l p 0
  splice_after p q =
      let j : ℕ = p - (a + k) in
      let at : a + (k + j) ≡ p = omega arith in
      let here : get_or (ys ++ drop k (drop a l)) (k + j) 0 ≡ get_or (drop k (drop a l)) j 0 =
      ap (λ (z : ℕ). get_or (ys ++ drop k (drop a l)) (z + j) 0) (sym e) ∙ get_or-append-add ys (drop k (drop a l)) j 0 in
      ap (λ (z : ℕ). get_or (splice a ys l k) z 0) (sym at) ∙ past_front (k + j) ∙ here
      ∙ get_or-drop k (drop a l) j 0 ∙ get_or-drop a l (k + j) 0 ∙ ap (λ (z : ℕ). get_or l z 0) at

-- row i as a part of the table, from s to e
module _ (n i : ℕ) (table : List ℕ) (F : Fits n table) (inside : i < n) (s e : ℕ) (starts : s ≡ i * n) where
  pub part_long : e ≤ s + n → length (take (e - s) (drop s table)) ≡ e - s
  part_long h = simp (length-take, length-drop) (omega (arith, row_ends n i inside, F.fits))

  pub part_at : (j : ℕ) → j < e - s → get_or (take (e - s) (drop s table)) j 0 ≡ entry n table i j
  part_at j h = get_or-take (e - s) (drop s table) j 0 h ∙ get_or-drop s table j 0 ∙ at_start n i table j starts

  -- copied into the front of a line
  pub line_of : {front : List ℕ} (rest : List ℕ) → e ≡ s + n → front ≡ take (e - s) (drop s table) → LineOf n i table (front ++ rest)
  line_of {front} rest h q =
      let whole : length front ≡ n = ap length q ∙ part_long (omega arith) ∙ omega arith in
      record {
        long = rw length-append (omega arith);
        holds = λ j l. get_or-append front rest 0 j (omega arith) ∙ ap (λ z. get_or z j 0) q ∙ part_at j (omega arith);
      }

-- that part, lowered and put back
module _ (n m i : ℕ) (line old : List ℕ) (F : Fits n old) (inside : i < n) (s e far : ℕ) (starts : s ≡ i * n) (ends : e ≡ s + n)
    (at_m : far ≡ get_or old (s + m) 0) where
  abbrev part : List ℕ
  part = take (e - s) (drop s old)

  abbrev lowered : List ℕ
  lowered = overwrite (length part) (lesser_way part line far) part

  long : length part ≡ n
  long = part_long n i old F inside s e starts (omega arith) ∙ omega arith

  lowered_at : (j : ℕ) → j < n → get_or lowered j 0 ≡ min (entry n old i j) (entry n old i m + get_or line j 0)
  unfolding lesser_way
  lowered_at j h =
      getD_overwrite (lesser_way part line far) part (length part) j 0 (omega (arith, long))
      ∙ ap₂ (λ (x y : ℕ). min x (y + get_or line j 0)) (part_at n i old F inside s e starts j (omega arith)) (at_m ∙ at_start n i old m starts)

  lowered_long : length lowered ≡ e - s
  lowered_long = length_overwrite (lesser_way part line far) part (length part) (omega arith) ∙ omega (arith, long)

  pub row_lowered : {ys : List ℕ} → ys ≡ lowered → RowLowered n m i line old (splice s ys old (e - s))
  row_lowered {ys} q =
      let room : s + (e - s) ≤ length old = omega (arith, row_ends n i inside, F.fits) in
      let whole : length ys ≡ e - s = ap length q ∙ lowered_long in
      record {
        long = splice_long s ys old (e - s) whole room;
        row = λ j h.
            sym (at_start n i (splice s ys old (e - s)) j starts) ∙ splice_in s ys old (e - s) whole room j (omega arith)
            ∙ ap (λ (l : List ℕ). get_or l j 0) q ∙ lowered_at j h;
        before = λ p h. splice_before s ys old (e - s) whole room p (omega arith);
        after = λ p h. splice_after s ys old (e - s) whole room p (omega arith);
      }

-- ---- the rows before i, where the way may go by tide m

module _ {n m : ℕ} {old : List ℕ} where
  pub lowered_none : Lowered n m 0 old old
  lowered_none = record { long = refl; lowered = λ a b h. absurd (omega arith); rest = λ p h. refl }

  pub lowered_more : {i : ℕ} {now new line : List ℕ} → LineOf n m old line → m < n → Lowered n m i old now → RowLowered n m i line now new
      → Lowered n m (i + 1) old new
  lowered_more {i} {now} {new} {line} L inside W R =
      record {
        long = R.long ∙ W.long;
        lowered = λ a b h k.
            ⊎_elim (λ q. earlier a b q k)
            (λ q. let e : i ≡ a = omega arith in subst (λ z. entry n new z b ≡ by_way_of m (entry n old) z b) e (here b k)) (split a i);
        rest = λ p h. R.after p (omega arith) ∙ W.rest p (omega arith);
      }
    where
      earlier : (a b : ℕ) → a < i → b < n → entry n new a b ≡ by_way_of m (entry n old) a b
      earlier a b q k =
          let ends : suc a * n ≤ i * n = mul-le-mul_right n q in
          R.before (a * n + b) (omega arith) ∙ W.lowered a b q k

      here : (b : ℕ) → b < n → entry n new i b ≡ by_way_of m (entry n old) i b
      here b k =
          R.row b k
          ∙ ap₂ (λ (x y : ℕ). min x y) (W.rest (i * n + b) (omega arith))
          (ap₂ (λ (x y : ℕ). x + y) (W.rest (i * n + m) (omega arith)) (L.holds b k))
          ∙ sym (by_is m (entry n old) i b)

  pub lowered_fits : {i : ℕ} {new : List ℕ} → Lowered n m i old new → Fits n old → Fits n new
  lowered_fits W F = record { few = F.few; fits = omega (arith, F.fits, W.long) }

-- ---- the whole table, where the way may go by each tide below m

pub record Closing (n m : ℕ) (old new : List ℕ) : Type 0 where
  pub long : length new ≡ length old
  pub inside : (i j : ℕ) → i < n → j < n → entry n new i j ≡ closure m (entry n old) i j
  pub past : (p : ℕ) → n * n ≤ p → get_or new p 0 ≡ get_or old p 0

module _ {n : ℕ} {old : List ℕ} where
  pub closing_none : Closing n 0 old old
  closing_none = record { long = refl; inside = λ i j a b. sym (closure_none (entry n old) i j); past = λ p h. refl }

  pub closing_more : {m : ℕ} {now new : List ℕ} → m < n → Closing n m old now → Lowered n m n now new → Closing n (m + 1) old new
  closing_more {m} {now} {new} h C W =
      record {
        long = W.long ∙ C.long;
        inside = λ i j a b. W.lowered i j a b ∙ turn i j a b ∙ ap (λ (z : ℕ). closure z (entry n old) i j) (sym (add-one m));
        past = λ p k. W.rest p k ∙ C.past p k;
      }
    where
      turn : (i j : ℕ) → i < n → j < n → by_way_of m (entry n now) i j ≡ closure (suc m) (entry n old) i j
      turn i j a b =
          by_is m (entry n now) i j
          ∙ ap₂ (λ (x y : ℕ). min x y) (C.inside i j a b) (ap₂ (λ (x y : ℕ). x + y) (C.inside i m a h) (C.inside m j h b))
          ∙ sym (closure_min (entry n old) m i j)

  pub closing_near : {m : ℕ} {new : List ℕ} → Closing n m old new → InRange (n * n) old → InRange (n * n) new
  closing_near {m} {new} C N =
      places_near n new (λ i j a b. omega (arith, C.inside i j a b, closure_below (entry n old) m i j, entry_near N i j a b))

  pub closing_done : {m : ℕ} {new : List ℕ} → m ≡ n → Fits n old → Closing n m old new → new ≡ closed_table n old
  unfolding closed_table
  closing_done {m} {new} e F C =
      ext_get_or 0 new (overwrite (n * n) least old) (C.long ∙ sym (length_overwrite least old (n * n) F.fits))
      (λ p l. ⊎_elim (λ h. place p h ∙ sym (getD_overwrite least old (n * n) p 0 h)) (λ h. C.past p h ∙ sym (get_d_past least old (n * n) p 0 h))
      (split p (n * n)))
    where
      least : ℕ → ℕ
      least p = closure n (entry n old) (p / n) (p % n)

      place : (p : ℕ) → p < n * n → get_or new p 0 ≡ least p
      place p h =
          let R = in_row n n p h in
          ap (λ (z : ℕ). get_or new z 0) (sym R.place) ∙ C.inside (p / n) (p % n) R.row R.column
          ∙ ap (λ (z : ℕ). closure z (entry n old) (p / n) (p % n)) e

-- ---- the pairs that are nearer

-- a test as a number
byte_bit : (b : Bool) → bool_byte b ≡ bit b
byte_bit true = refl
byte_bit false = refl

byte_low : (b : Bool) → bool_byte b ≤ 1
byte_low true = omega arith
byte_low false = omega arith

-- one more place counted
pub counted_more : (p : ℕ → Bool) (i : ℕ) {total one : ℕ} → (total ≡ count_below i p) × (total ≤ i) → one ≡ bool_byte (p i)
    → (total + one ≡ count_below (i + 1) p) × (total + one ≤ i + 1)
unfolding count_below
counted_more p i C e =
    (sum_more (λ t. bit (p t)) i C.0 (e ∙ byte_bit (p i)), omega (arith, C.1, e, byte_low (p i)))

module _ (n i : ℕ) (new old : List ℕ) (F : Fits n new) (G : Fits n old) (inside : i < n) (s e : ℕ) (starts : s ≡ i * n) (ends : e ≡ s + i) where
  abbrev row_of : List ℕ → List ℕ
  row_of l = take (e - s) (drop s l)

  -- a row's places before the diagonal
  pub row_counted : {r : ℕ} {a b : List ℕ} → a ≡ row_of new → b ≡ row_of old → r ≡ count_below (length a) (λ j. ltb (get_or a j 0) (get_or b j 0))
      → r ≡ count_below i (λ j. ltb (entry n new i j) (entry n old i j))
  row_counted f g p =
      let q = p ∙ ap₂ (λ (x y : List ℕ). count_below (length x) (λ j. ltb (get_or x j 0) (get_or y j 0))) f g in
      let long : length (row_of new) ≡ i = part_long n i new F inside s e starts (omega arith) ∙ omega arith in
      q ∙ ap (λ (k : ℕ). count_below k (λ j. ltb (get_or (row_of new) j 0) (get_or (row_of old) j 0))) long
      ∙ count_same i (λ j. ltb (get_or (row_of new) j 0) (get_or (row_of old) j 0)) (λ j. ltb (entry n new i j) (entry n old i j))
      (λ j h. ap₂ (λ (x y : ℕ). ltb x y) (part_at n i new F inside s e starts j (omega arith)) (part_at n i old G inside s e starts j (omega arith)))

-- the pairs whose later tide is before i
pub record PairsTo (n : ℕ) (new old : List ℕ) (i total : ℕ) : Type 0 where
  pub is : total ≡ sum_below i (λ i. count_below i (λ j. ltb (entry n new i j) (entry n old i j)))
  pub few : total ≤ 120 * i

module _ (n : ℕ) (new old : List ℕ) where
  abbrev in_row? : ℕ → ℕ → Bool
  in_row? i j = ltb (entry n new i j) (entry n old i j)

  pub pairs_none : PairsTo n new old 0 0
  pairs_none = record { is = sym (sum_zero (λ i. count_below i (in_row? i))); few = omega arith }

  pub pairs_more : {i total r : ℕ} → PairsTo n new old i total → i < 120 → r ≡ count_below i (in_row? i) → PairsTo n new old (i + 1) (total + r)
  pairs_more {i} P h q = record { is = sum_more (λ i. count_below i (in_row? i)) i P.is q; few = omega (arith, P.few, count_most i (in_row? i)) }

  pub pairs_done : {i total : ℕ} → i ≡ n → PairsTo n new old i total → total ≡ nearer_pairs n (entry n new) (entry n old)
  unfolding nearer_pairs
  pairs_done e P = P.is ∙ ap (λ (z : ℕ). sum_below z (λ i. count_below i (in_row? i))) e

-- ---- the tests of reason 13

module _ (n : ℕ) (l : List ℕ) (i : ℕ) where
  abbrev same? : ℕ → Bool
  same? j = eqb (entry n l i j) (entry n l j i)

  pub row_fails : every i same? ≡ false → false ≡ symmetric_row n l i
  unfolding symmetric_row
  row_fails e = rw e

  pub row_decides : {x j : ℕ} → j ≤ i → i ≤ j → every j same? ≡ true → x ≡ entry n l i i → eqb x 0 ≡ symmetric_row n l i
  unfolding symmetric_row
  row_decides {x} {j} a b e q = rw (every_done same? j i a b e, q)
