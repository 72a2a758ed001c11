-- Lines of numbers put one after the other, and how long they are at most. Assumes nothing.
use Prim.Native.Nat.{ℕ, ◌+◌, ◌-◌, ◌*◌, ◌≤◌, ◌<◌}
use native.Mathlib.Omega.{arith}
use native.Mathlib.Numerals.{add-one}
use mathlib.Core.Path.{◌≡◌, refl, sym, ap, ap₂, ◌∙◌}
use mathlib.Core.List.{List, [], ◌∷◌, ◌++◌, flat_map, append_assoc}
use lib.ListN.{length, take, drop, get_or, length-take}
use lib.Seq.{get_or-take}
use Rattle.lists.specs.Lists.{tabulate}
use Rattle.lists.proofs.Members.{flat_map_append, flat_map_one}
use Rattle.lists.proofs.Tables.{tabulate_suc, tabulate_is}
use Rattle.sheet_text.specs.Text.{ascii, decimal, spaced}
use Rattle.sheet_text.specs.Lines.{field, named}
use Rattle.sheet_text.specs.Putting.{PutText}
use Rattle.sheet_text.proofs.NumberLaws.{decimal_short}
use Rattle.sheet_text.proofs.PuttingLaws.{puts_none, puts_then, puts_as}
use Rattle.sheet_text.proofs.LineLaws.{named_short}
use Rattle.metric_closure.specs.Call.{entry}
use Rattle.metric_closure.specs.Tables.{InRange}
use Rattle.metric_closure.proofs.TableLaws.{part_long, part_at, entry_near}
use Rattle.closure_text.specs.Text.{number_line, tide_line, lowered_line}
use Rattle.closure_text.specs.Rows.{tide_at, PrintableTable}

-- a distance has at most seven digits
pub number_short : (x : ℕ) → x ≤ 1048575 → length (decimal x) ≤ 7
number_short x h = decimal_short 6 x (omega arith)

-- one more of a list of parts
flat_map_more : {A : Type 0} (f : A → List ℕ) (xs : List A) (x : A) → flat_map f (xs ++ (x ∷ [])) ≡ flat_map f xs ++ f x
flat_map_more f xs x = flat_map_append f xs (x ∷ []) ∙ ap (λ ys. flat_map f xs ++ ys) (flat_map_one f x)

-- ---- one line

pub line_put : (x : ℕ) (rest : List ℕ) {l a b c : List ℕ} {at p q end : ℕ} → PutText l at (decimal x) p a → PutText a p (flat_map spaced rest) q b
    → PutText b q (10 ∷ []) end c → PutText l at (number_line x rest) end c
unfolding number_line
line_put x rest u v w = puts_then (puts_then u v) w

-- a list in range
pub range_none : (l : List ℕ) → InRange 0 l
range_none l = record { near = λ p h. absurd (omega arith) }

-- the front of one
pub range_front : {n : ℕ} {l : List ℕ} (k : ℕ) → InRange n l → k ≤ n → InRange (length (take k l)) (take k l)
range_front {n} {l} k R h =
    record {
      near = λ p i.
          let short = simp length-take at i in
          let below : p < k = omega arith in
          omega (arith, get_or-take k l p 0 below, R.near p (omega arith));
    }

-- ---- the comment

lowered_fields : (m : ℕ) → named (ascii "# ") m 32 ++ ascii "pairs lowered\n" ≡ lowered_line m
unfolding named field lowered_line
lowered_fields m = simp append_assoc

pub lowered_put : {l a b : List ℕ} {p end : ℕ} (m : ℕ) → PutText l 0 (named (ascii "# ") m 32) p a → PutText a p (ascii "pairs lowered\n") end b
    → PutText l 0 (lowered_line m) end b
lowered_put m u v = puts_as (puts_then u v) (lowered_fields m) refl

pub lowered_short : (m : ℕ) → m < 4294967296 → length (named (ascii "# ") m 32) ≤ 13
lowered_short m h = named_short (ascii "# ") m 32 h

-- ---- k and the minima

pub head_put : {k b0 x y : ℕ} {row b : List ℕ} → x ≡ k → y ≡ b0 → row ≡ b → {l m n : List ℕ} {at p end : ℕ} → PutText l at (number_line x []) p m
    → PutText m p (number_line y (take k row)) end n → PutText l at (number_line k [] ++ number_line b0 (take k b)) end n
head_put {k} {b0} {x} {y} {row} {b} e f g {l} {m} {n} {at} {p} {end} u v =
    puts_then (puts_as u (ap (λ z. number_line z []) e) refl) (puts_as v (ap₂ (λ z r. number_line z (take k r)) f g) refl)

-- ---- the line of a tide: row t before the diagonal is a part of the table

module _ (n : ℕ) (settings table : List ℕ) (t s e : ℕ) (P : PrintableTable n settings table) (h : t < n) (starts : s ≡ t * n) (ends : e ≡ s + t) where
  pub row_long : length (take (e - s) (drop s table)) ≡ t
  row_long = part_long n t table P.fits h s e starts (omega arith) ∙ omega arith

  row_is : take (e - s) (drop s table) ≡ tabulate t (entry n table t)
  row_is =
      sym (tabulate_is t (entry n table t) 0 (take (e - s) (drop s table)) row_long
      (λ j l. sym (part_at n t table P.fits h s e starts j (omega arith))))

  pub row_near : InRange (length (take (e - s) (drop s table))) (take (e - s) (drop s table))
  row_near =
      record {
        near = λ j l.
            let inside : j < t = omega (arith, row_long) in
            omega (arith, part_at n t table P.fits h s e starts j (omega arith), entry_near P.near t j h (omega arith));
      }

  pub tide_put : {x : ℕ} → x ≡ get_or settings t 0 → {l m : List ℕ} {at end : ℕ} → PutText l at (number_line x (take (e - s) (drop s table))) end m
      → PutText l at (tide_line (tide_at n settings table t)) end m
  unfolding tide_line tide_at
  tide_put set p = puts_as p (ap₂ number_line set row_is) refl

-- ---- a line for each tide

module _ (n : ℕ) (settings table : List ℕ) where
  abbrev tides : ℕ → List ℕ
  tides t = flat_map tide_line (tabulate t (tide_at n settings table))

  pub tides_none : {l : List ℕ} {at : ℕ} → at ≤ length l → PutText l at (tides 0) at l
  unfolding flat_map tabulate
  tides_none {l} {at} h = puts_none l at h

  pub tides_more : (t : ℕ) {l m k : List ℕ} {at mid end : ℕ} → PutText l at (tides t) mid m → PutText m mid (tide_line (tide_at n settings table t)) end k
      → PutText l at (tides (t + 1)) end k
  tides_more t p q =
      puts_as (puts_then p q)
      (sym (ap tides (add-one t) ∙ ap (flat_map tide_line) (tabulate_suc t (tide_at n settings table))
      ∙ flat_map_more tide_line (tabulate t (tide_at n settings table)) (tide_at n settings table t))) refl

  pub tides_done : {t : ℕ} → t ≡ n → {l m : List ℕ} {at end : ℕ} → PutText l at (tides t) end m → PutText l at (tides n) end m
  tides_done e p = puts_as p (ap tides e) refl
