-- The rows that a merge adds to the first table, and what it writes, as the loops make them. Assumes nothing.
use Prim.Native.Nat.{ℕ, suc, ◌+◌, ◌-◌, ◌*◌, ◌≤◌, ◌<◌, min}
use native.Mathlib.Omega.{arith}
use native.Mathlib.Numerals.{add-one}
use mathlib.Core.Path.{◌≡◌, refl, sym, ap, ap₂, ◌∙◌, subst}
use mathlib.Core.Bool.{Bool}
use mathlib.Core.List.{List, [], ◌∷◌, ◌++◌, append-nil, append_assoc}
use lib.ListN.{length, take, drop, set, replicate, length-take, length-drop, length-set, get_or-replicate}
use lib.Seq.{get_or-take, get_or-drop, take-suc-set}
use Rattle.lists.specs.Lists.{tabulate, overwrite, at, least}
use Rattle.lists.proofs.Members.{least_le, least_more}
use Rattle.lists.proofs.Tables.{length_tabulate, mem_tabulate, tabulate_suc, tabulate_is, length_overwrite, getD_overwrite}
use Rattle.study.specs.Limits.{cell, max_tides, max_distance}
use Rattle.metric_closure.specs.Tables.{InRange, lesser_way}
use Rattle.merge.specs.Rows.{Tables, Remaining, sum_by, crossing, cross_row, row_in_range, stepped}

-- ---- what is asked

-- of fewer remaining tides
pub remaining_fewer : {n m k : ℕ} {rest : List ℕ} → Remaining n m rest → k ≤ m → Remaining n k rest
remaining_fewer R l = record { few = omega (arith, R.few); size = R.size; below = λ r h. R.below r (omega arith) }

-- ---- the least of some numbers, as a loop finds it that begins with one above them

-- one number more
bounded_more : (x : ℕ) (w : ℕ → ℕ) (m : ℕ) → least (x ∷ tabulate (m + 1) w) ≡ min (least (x ∷ tabulate m w)) (w m)
bounded_more x w m = rw (add-one m, tabulate_suc m w) (least_more (x ∷ tabulate m w) (w m) (omega arith))

-- in the end the bound doesn't count
unbounded : (x : ℕ) (xs : List ℕ) → 0 < length xs → least xs ≤ x → least (x ∷ xs) ≡ least xs
unbounded x [] l h = absurd (omega arith)
unbounded x (y ∷ ys) l h = omega arith

-- ---- the least sums to each place

-- no sum of two distances is greater
abbrev max_sum : ℕ
max_sum = 2097150

-- a row that no sum exceeds
pub record Begun (row : List ℕ) : Type 0 where
  pub high : (i : ℕ) → i < max_tides → max_sum ≤ at row i

pub begun : (x : ℕ) → max_sum ≤ x → Begun (replicate max_tides x)
begun x l = record { high = λ i h. omega (arith, get_or-replicate max_tides i x 0 h) }

-- lowered by the sums of the first q pairs
pub record Lowest (d1 d2 firsts seconds : List ℕ) (j : ℕ) (old : List ℕ) (q : ℕ) (row : List ℕ) : Type 0 where
  pub low : q ≤ length firsts
  pub size : length row ≡ max_tides
  pub is : (i : ℕ) → i < max_tides → at row i ≡ least (at old i ∷ tabulate q (sum_by d1 d2 firsts seconds i j))

-- row x of a table, as a part of it
abbrev line : List ℕ → ℕ → List ℕ
line d x = take (x * max_tides + max_tides - x * max_tides) (drop (x * max_tides) d)

module _ {d1 d2 f g : List ℕ} {j : ℕ} where
  pub lowest_none : {row : List ℕ} → length row ≡ max_tides → Lowest d1 d2 f g j row 0 row
  unfolding tabulate
  lowest_none e = record { low = omega arith; size = e; is = λ i l. refl }

  module _ (S : Tables d1 d2 f g) (inside : j < max_tides) where
    -- a sum is within the bound
    sum_high : (i q : ℕ) → i < max_tides → q < length f → sum_by d1 d2 f g i j q ≤ max_sum
    unfolding sum_by
    sum_high i q h l =
        let first = S.first_near.near ((at f q - 1) * max_tides + i) (omega (arith, S.first_low q l, S.first_high q l)) in
        let second = S.second_near.near ((at g q - 1) * max_tides + j) (omega (arith, S.second_low q l, S.second_high q l)) in
        omega arith

    pub lowest_done : {q : ℕ} {old row : List ℕ} → Begun old → Lowest d1 d2 f g j old q row → length f ≤ q → row ≡ cross_row d1 d2 f g j
    unfolding cross_row crossing
    lowest_done {q} {old} {row} H L l = sym (tabulate_is max_tides (λ i. crossing d1 d2 f g i j) 0 row L.size (λ i h. sym (found i h)))
      where
        found : (i : ℕ) → i < max_tides → at row i ≡ crossing d1 d2 f g i j
        found i h =
            let w = sum_by d1 d2 f g i j in
            let all : q ≡ length f = omega (arith, L.low) in
            let sums = tabulate (length f) w in
            let high = least_le sums (mem_tabulate (length f) w 0 S.some) in
            L.is i h ∙ ap (λ z. least (at old i ∷ tabulate z w)) all
            ∙ unbounded (at old i) sums (omega (arith, length_tabulate (length f) w, S.some)) (omega (arith, sum_high i 0 h S.some, H.high i h))

    -- pair q, of tides x and y
    module _ {q x y : ℕ} {old row : List ℕ} (L : Lowest d1 d2 f g j old q row) (l : q < length f) (x_is : x ≡ at f q - 1) (y_is : y ≡ at g q - 1) where
      pub places : (x < max_tides) × (y < max_tides)
      places = omega (arith, S.first_low q l, S.first_high q l, S.second_low q l, S.second_high q l)

      line_at : (i : ℕ) → i < max_tides → at (line d1 x) i ≡ cell d1 x i
      line_at i h = get_or-take (x * max_tides + max_tides - x * max_tides) (drop (x * max_tides) d1) i 0 (omega arith) ∙ get_or-drop (x * max_tides) d1 i 0

      pub lower_asks : (length row ≤ length (line d1 x)) × ((cell d2 y j ≤ max_distance) × InRange (length row) (line d1 x))
      lower_asks = (
        simp (length-take, length-drop) (omega (arith, L.size, S.first_long, places)),
        (
          S.second_near.near (y * max_tides + j) (omega (arith, places)),
          record {
            near = λ i h.
                let k : i < max_tides = omega (arith, L.size) in
                omega (arith, line_at i k, S.first_near.near (x * max_tides + i) (omega (arith, places)));
          },
        ),
      )

      pub lowest_more : {new : List ℕ} → new ≡ overwrite (length row) (lesser_way row (line d1 x) (cell d2 y j)) row → Lowest d1 d2 f g j old (q + 1) new
      unfolding lesser_way sum_by
      lowest_more {new} e =
          record {
            low = omega arith;
            size = ap length e ∙ length_overwrite lowered row (length row) (omega arith) ∙ L.size;
            is = λ i h.
                ap (λ (z : List ℕ). at z i) e ∙ getD_overwrite lowered row (length row) i 0 (omega (arith, L.size))
                ∙ ap₂ min (L.is i h) (ap₂ (λ a b. a + b) (ap (λ z. cell d2 z j) y_is) (line_at i h ∙ ap (λ z. cell d1 z i) x_is))
                ∙ sym (bounded_more (at old i) (sum_by d1 d2 f g i j) q);
          }
        where
          lowered : ℕ → ℕ
          lowered = lesser_way row (line d1 x) (cell d2 y j)

-- the test of its first n places
pub row_tested : (n : ℕ) {row list : List ℕ} {r : Bool} → r ≡ row_in_range (take n row) → row ≡ list → r ≡ row_in_range (take n list)
row_tested n e q = e ∙ ap (λ z. row_in_range (take n z)) q

-- ---- a row that goes on behind its first n places

pub record Extended (n : ℕ) (row : List ℕ) (v : ℕ → ℕ) (q : ℕ) (new : List ℕ) : Type 0 where
  pub size : length new ≡ max_tides
  pub is : take (n + q) new ≡ take n row ++ tabulate q v

module _ {n : ℕ} {row : List ℕ} {v : ℕ → ℕ} where
  pub extended_none : {new : List ℕ} → new ≡ row → length new ≡ max_tides → Extended n row v 0 new
  unfolding tabulate
  extended_none {new} e l =
      let none : n + 0 ≡ n = omega arith in
      record { size = l; is = ap₂ (λ (k : ℕ) (z : List ℕ). take k z) none e ∙ sym (append-nil (take n row)) }

  pub extended_more : {new : List ℕ} {q x : ℕ} → Extended n row v q new → n + q < max_tides → x ≡ v q → Extended n row v (q + 1) (set new (n + q) x)
  extended_more {new} {q} {x} F l e =
      let next : n + (q + 1) ≡ suc (n + q) = omega arith in
      record {
        size = simp length-set F.size;
        is = ap (λ k. take k (set new (n + q) x)) next ∙ take-suc-set new (n + q) x (omega (arith, F.size))
            ∙ ap₂ (λ a b. a ++ (b ∷ [])) F.is e ∙ append_assoc (take n row) (tabulate q v) (v q ∷ [])
            ∙ ap (λ z. take n row ++ z) (sym (tabulate_suc q v) ∙ ap (λ k. tabulate k v) (sym (add-one q)));
      }

  pub extended_done : {new : List ℕ} {q r : ℕ} → Extended n row v q new → q ≤ r → r ≤ q → take (n + r) new ≡ take n row ++ tabulate r v
  extended_done {new} {q} {r} F a b =
      let all : q ≡ r = omega arith in
      subst (λ z. take (n + z) new ≡ take n row ++ tabulate z v) all F.is

-- ---- memory that is written step by step

pub record Stepped (step : ℕ → List ℕ → List ℕ) (m : ℕ) (old new : List ℕ) (r : ℕ) : Type 0 where
  pub low : r ≤ m
  pub is : new ≡ stepped step r old
  pub same : length new ≡ length old

module _ {step : ℕ → List ℕ → List ℕ} {m : ℕ} where
  pub stepped_none : {old : List ℕ} → Stepped step m old old 0
  unfolding stepped
  stepped_none = record { low = omega arith; is = refl; same = refl }

  module _ {old now : List ℕ} {r : ℕ} (W : Stepped step m old now r) where
    pub stepped_more : {new : List ℕ} → r < m → new ≡ step r now → length new ≡ length now → Stepped step m old new (r + 1)
    unfolding stepped
    stepped_more l e k =
        record { low = omega arith; is = e ∙ ap (step r) W.is ∙ ap (λ z. stepped step z old) (sym (add-one r)); same = k ∙ W.same }

    pub stepped_done : {first : List ℕ} → m ≤ r → old ≡ first → now ≡ stepped step m first
    stepped_done l e = let all : r ≡ m = omega (arith, W.low) in W.is ∙ ap₂ (stepped step) all e
