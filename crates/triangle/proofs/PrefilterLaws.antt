-- The prefilter: where it raises no flag, no pair violates the triangle inequality; where no pair violates it, distances of 20 bits
-- raise no flag. Assumes nothing.
use Rattle.std.proofs.Common.{◌≡◌, ℕ, ◌+◌, ◌-◌, ◌*◌, ◌/◌, ◌%◌, ◌<◌, ◌≤◌, List, length, get_or, take, drop, ap, ◌∙◌, subst, ⊎_elim, arith}
use Rattle.std.proofs.Common.{length-drop, length-take, get_or-drop, get_or-take}
use Rattle.lists.proofs.Tests.{split}
use Rattle.study.specs.Limits.{cell}
use Rattle.study.specs.Calls.{violations}
use Rattle.study.specs.Triangle.{Triangle}
use Rattle.study.proofs.TriangleLaws.{obeyed_of}
use Rattle.triangle.specs.Prefilter.{SmallTriple, TripleFlags, RowFlags, Obeys, SmallRow}
use Rattle.triangle.specs.Pairs.{violation_of}
use Rattle.triangle.proofs.PairLaws.{nothing_found}
use Rattle.std.specs.Prelude.{None}

-- ---- one triple

-- y + z - x, as it wraps in 32 bits, is less than 2 ^ 31
record Excesses (x y z : ℕ) : Type 0 where
  rest : ℕ
  turns : ℕ
  small : rest < 2147483648
  is : rest + x + 4294967296 ≡ y + z + 4294967296 * turns

turned : {x y z : ℕ} → Excesses x y z → Excesses x z y
turned W = record { rest = W.rest; turns = W.turns; small = W.small; is = omega (arith, W.is) }

-- where that holds of all three, none of them is wrapped
module _ {x y z : ℕ} (hx : x < 4294967296) (hy : y < 4294967296) (hz : z < 4294967296) where
  unwrapped : Excesses x y z → Excesses y x z → Excesses z x y → x ≤ y + z
  unwrapped A B C =
      ⊎_elim (λ l. omega (arith, A.is))
      (λ l. let j : B.turns < 1 = omega (arith, A.is, B.is, A.small, B.small) in
      let k : C.turns < 1 = omega (arith, A.is, C.is, A.small, C.small) in
      absurd (omega (arith, B.is, C.is)))
      (split A.turns 2)

-- the top bit of x
abbrev Top : ℕ → ℕ → Type 0
Top x bit = (bit ≤ 1) × (bit ≡ 0 → x < 2147483648) × (x < 2147483648 → bit ≡ 0)

-- the three differences of `triple_flags`
module _ (x y z apart : ℕ) (hx : x < 4294967296) (hy : y < 4294967296) (hz : z < 4294967296) (hs : apart < 4294967296) where
  within_a : (both a : ℕ) → a < 2147483648 → both ≡ (x + z) % 4294967296 → (a + y) % 4294967296 ≡ both → Excesses y x z
  within_a both a h e f =
      record { rest = a; turns = (a + y) / 4294967296 + 1 - (x + z) / 4294967296; small = h; is = omega arith }

  within_b : (b : ℕ) → b < 2147483648 → (apart + z) % 4294967296 ≡ x → b ≡ (y + apart) % 4294967296 → Excesses z x y
  within_b b h e f =
      record { rest = b; turns = (apart + z) / 4294967296 + 1 - (y + apart) / 4294967296; small = h; is = omega arith }

  within_c : (c : ℕ) → c < 2147483648 → (apart + z) % 4294967296 ≡ x → (c + apart) % 4294967296 ≡ y → Excesses x y z
  within_c c h e f =
      record { rest = c; turns = (c + apart) / 4294967296 + 1 - (apart + z) / 4294967296; small = h; is = omega arith }

  -- where none has its top bit, there is no flag, and the inequality holds
  no_flag : (both : ℕ) {a b c : ℕ} → (apart + z) % 4294967296 ≡ x → both ≡ (x + z) % 4294967296 → (a + y) % 4294967296 ≡ both
      → b ≡ (y + apart) % 4294967296 → (c + apart) % 4294967296 ≡ y → a < 2147483648 → b < 2147483648 → c < 2147483648 → Triangle x y z
  no_flag both {a} {b} {c} e f p q r ha hb hc =
      let A = within_a both a ha f p in
      let B = within_b b hb e q in
      let C = within_c c hc e r in
      record {
        first = unwrapped hx hy hz C A B;
        second = unwrapped hy hx hz A C (turned B);
        third = unwrapped hz hx hy B (turned C) (turned A);
      }

  -- where it holds of distances of 20 bits, each is a sum less a distance that does not exceed it
  module _ (S : SmallTriple x y z) (R : Triangle x y z) where
    clear_a : (both a : ℕ) → a < 4294967296 → both ≡ (x + z) % 4294967296 → (a + y) % 4294967296 ≡ both → a < 2147483648
    clear_a both a h e f = omega (arith, S.first, S.second, S.third, R.second)

    clear_b : (b : ℕ) → (apart + z) % 4294967296 ≡ x → b ≡ (y + apart) % 4294967296 → b < 2147483648
    clear_b b e f = omega (arith, S.first, S.second, S.third, R.third)

    clear_c : (c : ℕ) → c < 4294967296 → (apart + z) % 4294967296 ≡ x → (c + apart) % 4294967296 ≡ y → c < 2147483648
    clear_c c h e f = omega (arith, S.first, S.second, S.third, R.first)

  -- so their top bits are the flags
  pub triple_is : (both : ℕ) {a b c p q r : ℕ} → a < 4294967296 → c < 4294967296 → (apart + z) % 4294967296 ≡ x → both ≡ (x + z) % 4294967296
      → (a + y) % 4294967296 ≡ both → b ≡ (y + apart) % 4294967296 → (c + apart) % 4294967296 ≡ y → Top a p → Top b q → Top c r → TripleFlags x y z (p + q + r)
  triple_is both {a} {b} {c} ha hc e f ea eb ec A B C =
      record {
        few = omega (arith, A.0, B.0, C.0);
        rule = λ n. no_flag both e f ea eb ec (A.1 (omega arith)) (B.1 (omega arith)) (C.1 (omega arith));
        clear = λ S R. omega (arith, A.2 (clear_a S R both a ha f ea), B.2 (clear_b S R b e eb), C.2 (clear_c S R c hc e ec));
      }

-- ---- a tide at y from one tide, and at a row's distances from others, which are at a line's from that one

module _ {line row : List ℕ} {y : ℕ} where
  pub flags_none : RowFlags line y row 0 0
  flags_none = record { few = omega arith; rule = λ e i l. absurd (omega arith); clear = λ S R. omega arith }

  pub flags_more : {j total v : ℕ} → RowFlags line y row j total → TripleFlags (get_or line j 0) y (get_or row j 0) v → RowFlags line y row (j + 1) (total + v)
  flags_more {j} {total} {v} D E =
      record {
        few = omega (arith, D.few, E.few);
        rule = λ e i l.
            ⊎_elim (λ k. D.rule (omega arith) i k)
            (λ k. let q : j ≡ i = omega arith in subst (λ z. Triangle (get_or line z 0) y (get_or row z 0)) q (E.rule (omega arith))) (split i j);
        clear = λ S R.
            omega (arith, D.clear (λ i l. S i (omega arith)) (λ i l. R i (omega arith)), E.clear (S j (omega arith)) (R j (omega arith)));
      }

  pub flags_done : {j n total : ℕ} → j ≤ n → n ≤ j → RowFlags line y row j total → RowFlags line y row n total
  flags_done {j} {n} {total} a b D = let e : j ≡ n = omega arith in subst (λ z. RowFlags line y row z total) e D

-- ---- a row, tide by tide

module _ (d row : List ℕ) where
  abbrev n : ℕ
  n = length row

  pub obeys_none : Obeys d row 0
  obeys_none = record { rule = λ u v a b c. absurd (omega arith) }

  -- the parts that the code tests, from tide i + 1 on
  abbrev line : ℕ → List ℕ
  line i = take (i * 120 + n - (i * 120 + i + 1)) (drop (i * 120 + i + 1) d)

  abbrev rest : ℕ → List ℕ
  rest i = take (n - (i + 1)) (drop (i + 1) row)

  rest_length : (i : ℕ) → length (rest i) ≡ n - (i + 1)
  rest_length i = simp (length-take, length-drop) (omega arith)

  line_at : (i j : ℕ) → i + 1 + j < n → get_or (line i) j 0 ≡ cell d i (i + 1 + j)
  line_at i j l =
      let p : i * 120 + i + 1 + j ≡ i * 120 + (i + 1 + j) = omega arith in
      get_or-take (i * 120 + n - (i * 120 + i + 1)) (drop (i * 120 + i + 1) d) j 0 (omega arith) ∙ get_or-drop (i * 120 + i + 1) d j 0
      ∙ ap (λ (k : ℕ). get_or d k 0) p

  rest_at : (i j : ℕ) → i + 1 + j < n → get_or (rest i) j 0 ≡ get_or row (i + 1 + j) 0
  rest_at i j l = get_or-take (n - (i + 1)) (drop (i + 1) row) j 0 (omega arith) ∙ get_or-drop (i + 1) row j 0

  pub obeys_more : {i total : ℕ} → Obeys d row i → i < n → RowFlags (line i) (get_or row i 0) (rest i) (length (rest i)) total → total ≤ 0
      → Obeys d row (i + 1)
  obeys_more {i} {total} U l D h =
      record {
        rule = λ u v a b c.
            ⊎_elim (λ k. U.rule u v k b c)
            (λ k. let q : i ≡ u = omega arith in
            subst (λ z. Triangle (cell d z v) (get_or row z 0) (get_or row v 0)) q (with v (omega arith) c)) (split u i);
      }
    where
      with : (v : ℕ) → i < v → v < n → Triangle (cell d i v) (get_or row i 0) (get_or row v 0)
      with v a b =
          let j : ℕ = v - (i + 1) in
          let q : i + 1 + j ≡ v = omega arith in
          subst (λ z. Triangle (cell d i z) (get_or row i 0) (get_or row z 0)) q
          (rw (← line_at i j (omega arith), ← rest_at i j (omega arith)) (D.rule (omega arith) j (omega (arith, rest_length i))))

  pub obeys_all : {i : ℕ} → n ≤ i → Obeys d row i → Obeys d row n
  obeys_all {i} l U = record { rule = λ u v a b c. U.rule u v (omega arith) b c }

  -- where every distance has 20 bits and the inequality holds, no part raises a flag
  pub obeys_clear : {i total : ℕ} → SmallRow d row → Obeys d row n → i < n → RowFlags (line i) (get_or row i 0) (rest i) (length (rest i)) total
      → total ≡ 0
  obeys_clear {i} {total} S U l D =
      D.clear
      (λ j k. let m : i + 1 + j < n = omega (arith, rest_length i) in
      record {
        first = omega (arith, line_at i j m, S.others i (i + 1 + j) (omega arith) m);
        second = S.own i l;
        third = omega (arith, rest_at i j m, S.own (i + 1 + j) m);
      })
      (λ j k. let m : i + 1 + j < n = omega (arith, rest_length i) in
      rw (line_at i j m, rest_at i j m) (U.rule i (i + 1 + j) l (omega arith) m))

  pub obeys_found : Obeys d row n → None ≡ violation_of (violations (cell d) n (λ i. get_or row i 0))
  obeys_found U =
      nothing_found (violations (cell d) n (λ i. get_or row i 0)) (obeyed_of (cell d) n (λ i. get_or row i 0) (λ u v a b. U.rule u v (omega arith) a b))
