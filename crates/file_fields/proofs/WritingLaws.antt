-- Bits written after bits over the front of old bytes: what one step of the code does to one byte, and steps one after the other.
-- Assumes nothing.
use Prim.Native.Nat.{ℕ, zero, suc, ◌+◌, ◌-◌, ◌*◌, ◌/◌, ◌%◌, ◌^◌, ◌≤◌, ◌<◌}
use native.Mathlib.Nat.{mod-eq_of_lt, mod-lt, lt_of_lt_of_le, add-suc, add-zero, div-one}
use native.Mathlib.Omega.{arith}
use mathlib.Core.Path.{◌≡◌, refl, sym, ap, ap₂, ◌∙◌, subst}
use mathlib.Core.Logic.{⊎_elim}
use mathlib.Core.Bool.{cond, not}
use mathlib.Core.List.{List, [], ◌∷◌, ◌++◌, append-nil, append_assoc}
use lib.Dec.{T, eqb, eqb→eq}
use lib.ListN.{length, get_or, set, drop, length-append, length-drop, length-set, get_or-append, get_or-eq_default}
use lib.Pow.{pow_pos, pow_mono, shl_lt, shl_exact, shr-shr, field, mod-mod-pow}
use lib.Seq.{get_or-append-add, get_or-drop, get_or-set_same, get_or-set_other, ext_get_or}
use Rattle.lists.specs.Lists.{over}
use Rattle.lists.proofs.Tests.{test, split, cond_yes, cond_no}
use Rattle.file_format.specs.Bits.{binary, bits_of, packed, Bits}
use Rattle.file_format.proofs.BitLaws.{append_bit, binary_ext, binary_small, binary_zero, binary_split}
use Rattle.file_format.proofs.BitLaws.{length_bits_of, bits_of_bit, bits_binary, length_pack, pack_at}
use Rattle.file_fields.specs.Writing.{InByte, Stands, Adds}

-- the number v in the c bits at p, inside one byte; the first bits of a byte clear it
unfoldable pub with_part : List ℕ → ℕ → ℕ → ℕ → List ℕ
with_part s p c v = set s (p / 8) ((cond (eqb (p % 8) 0) 0 (get_or s (p / 8) 0) + v * 2 ^ (8 - p % 8 - c)) % 256)

-- ---- one after the other

pub adds_none : {s : List ℕ} {at : ℕ} → Adds s at [] s
adds_none {s} {at} =
    record {
      next = λ old cs st.
          let e : at ≡ at + 0 = omega arith in
          subst (λ p. Stands old (cs ++ []) s p) e (subst (λ ds. Stands old ds s at) (sym (append-nil cs)) st);
      same = refl;
    }

pub adds_then : {s : List ℕ} {at : ℕ} {bs t : List ℕ} {p : ℕ} {ds u : List ℕ} → Adds s at bs t → p ≡ at + length bs → Adds t p ds u
    → Adds s at (bs ++ ds) u
adds_then {s} {at} {bs} {t} {p} {ds} {u} a e b =
    record {
      next = λ old cs st.
          let n : at + length bs + length ds ≡ at + length (bs ++ ds) = omega (arith, length-append bs ds) in
          let q : p + length ds ≡ at + length (bs ++ ds) = omega arith in
          subst (λ z. Stands old (cs ++ (bs ++ ds)) u z) q
          (subst (λ xs. Stands old xs u (p + length ds)) (append_assoc cs bs ds)
          (b.next old (cs ++ bs) (subst (λ z. Stands old (cs ++ bs) t z) (sym e) (a.next old cs st))));
      same = b.same ∙ a.same;
    }

-- ---- bytes over old ones

module _ (old bs : List ℕ) (room : (length bs + 7) / 8 ≤ length old) where
  packed_length : length (packed bs) ≡ (length bs + 7) / 8
  unfolding packed
  packed_length = length_pack ((length bs + 7) / 8) (λ p. get_or bs p 0)

  over_length : length (over (packed bs) old) ≡ length old
  over_length = omega (arith, length-append (packed bs) (drop (length (packed bs)) old), length-drop (length (packed bs)) old, packed_length)

  over_new : (i : ℕ) → i < (length bs + 7) / 8 → get_or (over (packed bs) old) i 0 ≡ binary (λ p. get_or bs p 0) (8 * i) 8
  unfolding packed
  over_new i l =
      get_or-append (packed bs) (drop (length (packed bs)) old) 0 i (omega (arith, packed_length))
      ∙ pack_at ((length bs + 7) / 8) (λ p. get_or bs p 0) i l

  over_old : (i : ℕ) → (length bs + 7) / 8 ≤ i → get_or (over (packed bs) old) i 0 ≡ get_or old i 0
  over_old i l =
      let w = packed_length in
      let e : length (packed bs) + (i - length (packed bs)) ≡ i = omega arith in
      ap (λ x. get_or (packed bs ++ drop (length (packed bs)) old) x 0) (sym e)
      ∙ get_or-append-add (packed bs) (drop (length (packed bs)) old) (i - length (packed bs)) 0
      ∙ get_or-drop (length (packed bs)) old (i - length (packed bs)) 0
      ∙ ap (λ x. get_or old x 0) e

  -- the byte that the next bit goes to, as the next bit finds it
  byte_found : cond (eqb (length bs % 8) 0) 0 (get_or (over (packed bs) old) (length bs / 8) 0) ≡ binary (λ p. get_or bs p 0) (8 * (length bs / 8)) 8
  byte_found =
      ⊎_elim
      (λ t. let e = eqb→eq (length bs % 8) 0 t in
      cond_yes (eqb (length bs % 8) 0) 0 (get_or (over (packed bs) old) (length bs / 8) 0) t
      ∙ sym (binary_zero (λ p. get_or bs p 0) (8 * (length bs / 8)) 8 (λ j l. get_or-eq_default bs 0 (omega arith))))
      (λ t. cond_no (eqb (length bs % 8) 0) 0 (get_or (over (packed bs) old) (length bs / 8) 0) t
      ∙ over_new (length bs / 8) (⊎_elim (λ l. absurd (begun (length bs % 8) t (omega arith))) (λ l. omega arith) (split (length bs % 8) 1)))
      (test (eqb (length bs % 8) 0))
    where
      begun : (x : ℕ) → T (not (eqb x 0)) → x ≡ 0 → ⊥
      begun x t e = subst (λ y. T (not (eqb y 0)) → ⊥) (sym e) (λ z. z) t

-- ---- one step

module _ (old bs : List ℕ) (bit : Bits (λ p. get_or bs p 0)) (c v : ℕ) (inside : length bs % 8 + c ≤ 8) (small : v < 2 ^ c)
    (fits : length bs + c ≤ 8 * length old) where
  abbrev q : ℕ
  q = length bs / 8

  abbrev j : ℕ
  j = length bs % 8

  abbrev r : ℕ
  r = 8 - length bs % 8 - c

  abbrev cs : List ℕ
  cs = bs ++ bits_of c v

  abbrev f : ℕ → ℕ
  f p = get_or bs p 0

  abbrev g : ℕ → ℕ
  g p = get_or (bs ++ bits_of c v) p 0

  longer : length cs ≡ length bs + c
  longer = length-append bs (bits_of c v) ∙ ap (λ x. length bs + x) (length_bits_of c v)

  room : (length bs + 7) / 8 ≤ length old
  room = omega arith

  room' : (length (bs ++ bits_of c v) + 7) / 8 ≤ length old
  room' = omega (arith, longer)

  bit' : Bits (λ p. get_or (bs ++ bits_of c v) p 0)
  bit' = append_bit bs (bits_of c v) bit (bits_of_bit c v)

  -- the bits before, the new ones, and those past them
  before : (p : ℕ) → p < length bs → f p ≡ g p
  before p l = sym (get_or-append bs (bits_of c v) 0 p l)

  past : (p : ℕ) → length bs + c ≤ p → g p ≡ 0
  past p l = get_or-eq_default cs 0 (omega (arith, longer))

  none : (p : ℕ) → length bs ≤ p → f p ≡ 0
  none p l = get_or-eq_default bs 0 l

  place : 8 * q + j ≡ length bs
  place = omega arith

  new : binary g (8 * q + j) c ≡ v
  new =
      binary_ext g (λ p. get_or (bits_of c v) p 0) (8 * q + j) 0 c (λ i l.
      let e : 8 * q + j + i ≡ length bs + i = omega (arith, place) in
      let z : i ≡ 0 + i = omega arith in
      ap g e ∙ get_or-append-add bs (bits_of c v) i 0 ∙ ap (λ x. get_or (bits_of c v) x 0) z)
      ∙ bits_binary c v small

  three : (h : ℕ → ℕ) → binary h (8 * q) 8 ≡ binary h (8 * q) j * 2 ^ (c + r) + (binary h (8 * q + j) c * 2 ^ r + binary h (8 * q + j + c) r)
  three h =
      let e : 8 ≡ j + (c + r) = omega arith in
      ap (binary h (8 * q)) e ∙ binary_split h (8 * q) j (c + r) ∙ ap (λ x. binary h (8 * q) j * 2 ^ (c + r) + x) (binary_split h (8 * q + j) c r)

  byte : binary f (8 * q) 8 + v * 2 ^ r ≡ binary g (8 * q) 8
  byte =
      let a = three f in
      let b = three g in
      let front : binary f (8 * q) j ≡ binary g (8 * q) j = binary_ext f g (8 * q) (8 * q) j (λ i l. before (8 * q + i) (omega (arith, place))) in
      let x : binary f (8 * q + j) c ≡ 0 = binary_zero f (8 * q + j) c (λ i l. none (8 * q + j + i) (omega (arith, place))) in
      let y : binary f (8 * q + j + c) r ≡ 0 = binary_zero f (8 * q + j + c) r (λ i l. none (8 * q + j + c + i) (omega (arith, place))) in
      let z : binary g (8 * q + j + c) r ≡ 0 = binary_zero g (8 * q + j + c) r (λ i l. past (8 * q + j + c + i) (omega (arith, place))) in
      let m : binary f (8 * q + j) c * 2 ^ r ≡ 0 * 2 ^ r = ap (λ k. k * 2 ^ r) x in
      let n : binary g (8 * q + j) c * 2 ^ r ≡ v * 2 ^ r = ap (λ k. k * 2 ^ r) new in
      let o : binary f (8 * q) j * 2 ^ (c + r) ≡ binary g (8 * q) j * 2 ^ (c + r) = ap (λ k. k * 2 ^ (c + r)) front in
      omega arith

  -- the bytes before and after the step
  abbrev was : List ℕ
  was = over (packed bs) old

  abbrev becomes : List ℕ
  becomes = over (packed (bs ++ bits_of c v)) old

  abbrev stored : ℕ
  stored = (cond (eqb (length bs % 8) 0) 0 (get_or (over (packed bs) old) (length bs / 8) 0) + v * 2 ^ (8 - length bs % 8 - c)) % 256

  stored_is : stored ≡ binary g (8 * q) 8
  stored_is =
      ap (λ y. (y + v * 2 ^ r) % 256) (byte_found old bs room) ∙ ap (λ y. y % 256) byte ∙ mod-eq_of_lt (binary_small g bit' (8 * q) 8)

  pub put_part : 1 ≤ c → with_part (over (packed bs) old) (length bs) c v ≡ over (packed (bs ++ bits_of c v)) old
  unfolding with_part
  put_part one =
      ext_get_or 0 (set was q stored) becomes (length-set was q stored ∙ over_length old bs room ∙ sym (over_length old cs room'))
      (λ i k. ⊎_elim (λ l. lower i l)
      (λ l. ⊎_elim (λ m. higher i m)
      (λ m. let e : q ≡ i = omega arith in subst (λ y. get_or (set was q stored) y 0 ≡ get_or becomes y 0) e here) (split q i))
      (split i q))
    where
      lower : (i : ℕ) → i < q → get_or (set was q stored) i 0 ≡ get_or becomes i 0
      lower i k =
          get_or-set_other was q i stored 0 (λ e. omega arith)
          ∙ over_new old bs room i (omega arith)
          ∙ binary_ext f g (8 * i) (8 * i) 8 (λ z o. before (8 * i + z) (omega arith))
          ∙ sym (over_new old cs room' i (omega (arith, longer)))

      higher : (i : ℕ) → q < i → get_or (set was q stored) i 0 ≡ get_or becomes i 0
      higher i k =
          get_or-set_other was q i stored 0 (λ e. omega arith)
          ∙ over_old old bs room i (omega arith)
          ∙ sym (over_old old cs room' i (omega (arith, longer)))

      here : get_or (set was q stored) q 0 ≡ get_or becomes q 0
      here =
          get_or-set_same was q stored 0 (omega (arith, over_length old bs room))
          ∙ stored_is
          ∙ sym (over_new old cs room' q (omega (arith, longer)))

-- what the code's step adds
adds_part : {s : List ℕ} {at c v : ℕ} → InByte s at c v → Adds s at (bits_of c v) (with_part s at c v)
unfolding with_part
adds_part {s} {at} {c} {v} B =
    record { next = λ old bs st. step old bs st.is st.place st; same = length-set s (at / 8) _ }
  where
    step : (old bs : List ℕ) → s ≡ over (packed bs) old → at ≡ length bs → Stands old bs s at
        → Stands old (bs ++ bits_of c v) (with_part s at c v) (at + length (bits_of c v))
    step old bs e p st =
        let n : length s ≡ length old = ap length e ∙ over_length old bs st.room in
        let l : length (bs ++ bits_of c v) ≡ length bs + length (bits_of c v) = length-append bs (bits_of c v) in
        let w = length_bits_of c v in
        record {
          is = ap₂ (λ x y. with_part x y c v) e p
              ∙ put_part old bs st.bits c v (subst (λ z. z % 8 + c ≤ 8) p B.inside) B.small (omega (arith, B.room)) B.some;
          place = omega arith;
          bits = append_bit bs (bits_of c v) st.bits (bits_of_bit c v);
          room = omega (arith, B.room);
        }

-- the same as the code computes it
module _ {s : List ℕ} {at c v : ℕ} (B : InByte s at c v) where
  part_moved : v * 2 ^ (8 - at % 8 - c) % 4294967296 ≡ v * 2 ^ (8 - at % 8 - c)
  part_moved = shl_exact {a = v} c (8 - at % 8 - c) 32 B.small (omega (arith, B.inside))

  -- the bits moved to their place fit a byte
  pub part_small : v * 2 ^ (8 - at % 8 - c) % 4294967296 < 256
  part_small =
      let e : c + (8 - at % 8 - c) ≤ 8 = omega (arith, B.inside) in
      rw part_moved (lt_of_lt_of_le (shl_lt {a = v} c (8 - at % 8 - c) B.small) (pow_mono {j = 8} e))

  pub part_put : {old : ℕ} → old ≡ cond (eqb (at % 8) 0) 0 (get_or s (at / 8) 0)
      → Adds s at (bits_of c v) (set s (at / 8) ((old + v * 2 ^ (8 - at % 8 - c) % 4294967296) % 256))
  unfolding with_part
  part_put e =
      subst (Adds s at (bits_of c v)) (sym (ap₂ (λ x y. set s (at / 8) ((x + y) % 256)) e part_moved)) (adds_part B)

-- ---- the bits of a number, front and rest

bits_split : (a c v : ℕ) → bits_of (a + c) v ≡ bits_of a (v / 2 ^ c) ++ bits_of c v
bits_split a zero v = ap (λ k. bits_of k v) (add-zero a) ∙ ap (bits_of a) (sym (div-one v)) ∙ sym (append-nil (bits_of a (v / 1)))
bits_split a (suc c) v =
    let e : 1 + c ≡ suc c = omega arith in
    ap (λ k. bits_of k v) (add-suc a c)
    ∙ ap (λ xs. xs ++ (v % 2 ∷ [])) (bits_split a c (v / 2) ∙ ap (λ x. bits_of a x ++ bits_of c (v / 2)) (shr-shr v 1 c ∙ ap (λ k. v / 2 ^ k) e))
    ∙ append_assoc (bits_of a (v / 2 ^ suc c)) (bits_of c (v / 2)) (v % 2 ∷ [])

-- only the last c bits of v count
bits_mod : (c v : ℕ) → bits_of c (v % 2 ^ c) ≡ bits_of c v
bits_mod zero v = refl
bits_mod (suc c) v =
    let e : suc c ≡ c + 1 = omega arith in
    ap₂ (λ x y. bits_of c x ++ (y ∷ []))
    (ap (λ k. v % 2 ^ k / 2) e ∙ field v c 1)
    (ap (λ k. v % 2 ^ k % 2) e ∙ mod-mod-pow v c 1)
    ∙ ap (λ xs. xs ++ (v % 2 ∷ [])) (bits_mod c (v / 2))

-- 1 moved up by a field's width
pub one_moved : (w : ℕ) → w ≤ 20 → 1 * 2 ^ w % 4294967296 ≡ 2 ^ w
one_moved w h =
    let e : 1 * 2 ^ w ≡ 2 ^ w = omega arith in
    ap (λ x. x % 4294967296) e ∙ mod-eq_of_lt (omega (arith, pow_mono {i = w} {j = 20} h))

pub bits_small : (x c : ℕ) → c ≤ 20 → x % (1 * 2 ^ c % 4294967296) < 2 ^ c
bits_small x c few = rw (one_moved c few) (mod-lt x (pow_pos c))

-- the next c bits of v, of w bits
pub field_more : {s : List ℕ} {at : ℕ} (w v done c : ℕ) {t u : List ℕ} → done + c ≤ w → c ≤ 20 → Adds s at (bits_of done (v / 2 ^ (w - done))) t
    → Adds t (at + done) (bits_of c (v / 2 ^ (w - done - c) % (1 * 2 ^ c % 4294967296))) u → Adds s at (bits_of (done + c) (v / 2 ^ (w - (done + c)))) u
field_more {s} {at} w v done c {t} {u} l few a b =
    subst (λ bs. Adds s at bs u) (ap (λ k. front ++ bits_of c (x % k)) (one_moved c few) ∙ bits)
    (adds_then a (ap (λ k. at + k) (sym (length_bits_of done (v / 2 ^ (w - done))))) b)
  where
    x : ℕ
    x = v / 2 ^ (w - done - c)

    front : List ℕ
    front = bits_of done (v / 2 ^ (w - done))

    high : v / 2 ^ (w - done) ≡ x / 2 ^ c
    high = let e : w - done ≡ w - done - c + c = omega arith in ap (λ k. v / 2 ^ k) e ∙ sym (shr-shr v (w - done - c) c)

    bits : front ++ bits_of c (x % 2 ^ c) ≡ bits_of (done + c) (v / 2 ^ (w - (done + c)))
    bits =
        let e : w - done - c ≡ w - (done + c) = omega arith in
        ap₂ (λ y ys. bits_of done y ++ ys) high (bits_mod c x) ∙ sym (bits_split done c x) ∙ ap (λ k. bits_of (done + c) (v / 2 ^ k)) e

pub field_end : {s : List ℕ} {at : ℕ} (w v done : ℕ) {t : List ℕ} → done ≡ w → Adds s at (bits_of done (v / 2 ^ (w - done))) t
    → Adds s at (bits_of w v) t
field_end {s} {at} w v done {t} e a =
    let z : w - done ≡ 0 = omega arith in
    subst (λ bs. Adds s at bs t) (ap₂ bits_of e (ap (λ k. v / 2 ^ k) z ∙ div-one v)) a
