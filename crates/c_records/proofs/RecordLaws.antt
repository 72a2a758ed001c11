-- The record as the code holds it, with k and the minima narrowed, and as it is written. Assumes nothing.
use Prim.Native.Nat.{ℕ, suc, ◌+◌, ◌-◌, ◌≤◌, ◌<◌}
use native.Mathlib.Omega.{arith}
use mathlib.Core.Path.{◌≡◌, refl, sym, ap, ◌∙◌}
use mathlib.Core.List.{List, ◌++◌, append-nil}
use lib.ListN.{length, drop, get_or, replicate, length-append, get_or-append}
use lib.Seq.{get_or-append-add}
use Rattle.lists.specs.Lists.{tabulate, overwrite, over}
use Rattle.lists.proofs.Tables.{tabulate_is}
use Rattle.study.specs.declared.Minima.{Minima}
use Rattle.study.specs.declared.Dataset.{Dataset}
use Rattle.validity.specs.Memory.{State, state_of}
use Rattle.narrowing.specs.Narrowing.{narrowed, narrow_minima, narrow_dataset}
use Rattle.c_records.specs.Record.{Lent, record_size, minima_at, dataset_of, numbers_of}

-- ---- read

-- as the code puts it together
pub narrow_read : (l : List ℕ) {k n : ℕ} {bytes : List ℕ} {M : Minima} {counts : List ℕ}
    → k ≡ narrowed (get_or l 0 0) → n ≡ get_or l 1 0 → bytes ≡ tabulate 9 (λ i. narrowed (get_or l (2 + i) 0))
    → M ≡ minima_at 0 bytes → counts ≡ tabulate 4 (λ i. get_or l (11 + i) 0)
    → record { k = k; n = n; minima = M; withdrawn = counts } ≡ narrow_dataset (dataset_of l)
unfolding narrow_dataset narrow_minima dataset_of minima_at tabulate
narrow_read l p z q e w = λ i. record { k = p i; n = z i; minima = (e ∙ ap (minima_at 0) q) i; withdrawn = w i }

pub bytes_read : (f : ℕ → ℕ) {m : List ℕ} → m ≡ overwrite 9 f (replicate 9 0) → m ≡ tabulate 9 f
unfolding overwrite
bytes_read f e = e ∙ append-nil (tabulate 9 f)

-- the lent memory with another record
abbrev pub with_record : Lent → Dataset → State
with_record l r = state_of r l.distances l.settings

-- ---- written

pub front_written : (xs l : List ℕ) → overwrite (length xs) (λ i. get_or xs i 0) l ≡ over xs l
unfolding overwrite
front_written xs l = ap (λ ys. ys ++ drop (length xs) l) (tabulate_is (length xs) (λ i. get_or xs i 0) 0 xs refl (λ i _. refl))

pub number_is : (r : Dataset) {i m x : ℕ} → i ≡ m → x ≡ get_or (numbers_of r) m 0 → x ≡ get_or (numbers_of r) i 0
number_is r e q = q ∙ ap (λ z. get_or (numbers_of r) z 0) (sym e)

module _ (r : Dataset) (eight : length r.minima.b ≡ 8) where
  -- the b's stand from place 3 on, the counts from place 11 on
  pub number_b : (i : ℕ) → 3 ≤ i → i < 11 → get_or r.minima.b (i - 3) 0 ≡ get_or (numbers_of r) i 0
  unfolding numbers_of
  number_b i low high =
      let e : suc (suc (suc (i - 3))) ≡ i = omega arith in
      sym (ap (λ (z : ℕ). get_or (numbers_of r) z 0) (sym e) ∙ get_or-append r.minima.b r.withdrawn 0 (i - 3) (omega arith))

  pub number_count : (i : ℕ) → 11 ≤ i → get_or r.withdrawn (i - 11) 0 ≡ get_or (numbers_of r) i 0
  unfolding numbers_of
  number_count i low =
      let e : suc (suc (suc (length r.minima.b + (i - 11)))) ≡ i = omega arith in
      sym (ap (λ (z : ℕ). get_or (numbers_of r) z 0) (sym e) ∙ get_or-append-add r.minima.b r.withdrawn (i - 11) 0)

  module _ (four : length r.withdrawn ≡ 4) where
    numbers_length : length (numbers_of r) ≡ record_size
    unfolding numbers_of
    numbers_length = simp length-append (omega arith)

    pub written : (l : List ℕ) → overwrite record_size (λ i. get_or (numbers_of r) i 0) l ≡ over (numbers_of r) l
    written l = ap (λ m. overwrite m (λ i. get_or (numbers_of r) i 0) l) (sym numbers_length) ∙ front_written (numbers_of r) l

    -- the next call reads what was written
    pub read_back : (l : List ℕ) → dataset_of (over (numbers_of r) l) ≡ r
    unfolding dataset_of minima_at numbers_of
    read_back l = λ i. record { k = r.k; n = r.n; minima = record { b0 = r.minima.b0; b = b i }; withdrawn = counts i }
      where
        rest : List ℕ
        rest = drop (length (numbers_of r)) l

        at_front : (i : ℕ) → i < record_size → get_or (numbers_of r ++ rest) i 0 ≡ get_or (numbers_of r) i 0
        at_front i h = get_or-append (numbers_of r) rest 0 i (omega (arith, numbers_length))

        minimum : (j : ℕ) → j < 8 → get_or (numbers_of r ++ rest) (3 + j) 0 ≡ get_or r.minima.b j 0
        minimum j h =
            let e : 3 + j - 3 ≡ j = omega arith in
            at_front (3 + j) (omega arith) ∙ sym (number_b (3 + j) (omega arith) (omega arith)) ∙ ap (λ (z : ℕ). get_or r.minima.b z 0) e

        b : tabulate 8 (λ j. get_or (numbers_of r ++ rest) (3 + j) 0) ≡ r.minima.b
        b = tabulate_is 8 (λ j. get_or (numbers_of r ++ rest) (3 + j) 0) 0 r.minima.b eight minimum

        count : (j : ℕ) → j < 4 → get_or (numbers_of r ++ rest) (11 + j) 0 ≡ get_or r.withdrawn j 0
        count j h =
            let e : 11 + j - 11 ≡ j = omega arith in
            at_front (11 + j) (omega arith) ∙ sym (number_count (11 + j) (omega arith)) ∙ ap (λ (z : ℕ). get_or r.withdrawn z 0) e

        counts : tabulate 4 (λ j. get_or (numbers_of r ++ rest) (11 + j) 0) ≡ r.withdrawn
        counts = tabulate_is 4 (λ j. get_or (numbers_of r ++ rest) (11 + j) 0) 0 r.withdrawn four count
