-- Fields of one width taken from a file one after the other, over the front of a list. Assumes nothing.
use Prim.Native.Nat.{ℕ, ◌+◌, ◌*◌, ◌^◌, ◌≤◌, ◌<◌}
use native.Mathlib.Nat.{mul-suc, mul-zero, mul-le-mul}
use native.Mathlib.Omega.{arith}
use native.Mathlib.Numerals.{add-one}
use mathlib.Core.Path.{◌≡◌, sym, ap, ◌∙◌, subst}
use mathlib.Core.Logic.{⊎_elim}
use mathlib.Core.List.{List}
use lib.ListN.{length, get_or, set, replicate, length-replicate, get_or-replicate, get_or-eq_default}
use lib.Pow.{pow_pos}
use Rattle.lists.specs.Lists.{overwrite}
use Rattle.lists.proofs.Tests.{split}
use Rattle.lists.proofs.Tables.{getD_overwrite, get_d_past}
use Rattle.lists.proofs.Fills.{Filled, filled_none, filled_more, filled_done}
use Rattle.file_format.specs.Bits.{bits_at}
use Rattle.file_format.proofs.BitLaws.{bits_at_small}
use Rattle.bit_reader.specs.declared.Place.{Place}
use Rattle.bit_reader.specs.Fields.{BitsRead, FieldGot}
use Rattle.bit_reader.proofs.FieldLaws.{bits_same}
use Rattle.file_fields.specs.Heading.{run_at}

-- the first j of n fields of w bits, which begin after `start` bits, stand over the front of old, and the next is at p
pub record Taken (s : List ℕ) (w start n : ℕ) (old new : List ℕ) (p : Place) (j : ℕ) : Type 0 where
  pub filled : Filled n (λ i. bits_at s (start + w * i) w) old new j
  pub here : BitsRead p (start + w * j)

-- the field of number j ends where n fields end, or before
pub one_more : (w : ℕ) {j n : ℕ} → j < n → w * j + w ≤ w * n
one_more w {j} {n} l =
    let next : w * (j + 1) ≡ w * j + w = ap (λ x. w * x) (add-one j) ∙ mul-suc w j in
    let same : w ≤ w = omega arith in
    let up : j + 1 ≤ n = omega arith in
    omega (arith, mul-le-mul same up)

module _ {s : List ℕ} (w start n : ℕ) where
  pub taken_none : {old : List ℕ} {p : Place} → BitsRead p start → Taken s w start n old old p 0
  taken_none here = record { filled = filled_none; here = bits_same here (omega (arith, mul-zero w)) }

  pub taken_more : {old new : List ℕ} {p : Place} {j v : ℕ} {q : Place} → Taken s w start n old new p j → j < n → n ≤ length old
      → FieldGot s (start + w * j) w v → BitsRead q (start + w * j + w) → Taken s w start n old (set new j v) q (j + 1)
  taken_more {j = j} T l room g past =
      let next : w * (j + 1) ≡ w * j + w = ap (λ x. w * x) (add-one j) ∙ mul-suc w j in
      record { filled = filled_more T.filled l room g.is; here = bits_same past (omega arith) }

  pub taken_all : {old new : List ℕ} {p : Place} {j : ℕ} → Taken s w start n old new p j → n ≤ j
      → BitsRead p (start + w * n) × (new ≡ overwrite n (λ i. bits_at s (start + w * i) w) old)
  taken_all {j = j} T l =
      let e : w * j ≡ w * n = ap (λ x. w * x) (all T.filled.low) in
      (bits_same T.here (omega arith), filled_done T.filled l)
    where
      all : j ≤ n → j ≡ n
      all h = omega arith

-- ---- the numbers taken

-- past the end of zeros stands 0 as well
zero_at : (room i : ℕ) → ◌≡◌ {A = ℕ} (get_or (replicate room 0) i 0) 0
zero_at room i =
    ⊎_elim (λ l. get_or-replicate room i 0 0 l)
    (λ l. get_or-eq_default (replicate room 0) 0 (subst (λ (z : ℕ). z ≤ i) (sym (length-replicate {A = ℕ} room 0)) l)) (split i room)

-- each fits its field
pub run_small : (s : List ℕ) (start w n room i : ℕ) → get_or (run_at s start w n room) i 0 < 2 ^ w
run_small s start w n room i =
    ⊎_elim
    (λ l. subst (λ (z : ℕ). z < 2 ^ w) (sym (getD_overwrite (λ j. bits_at s (start + w * j) w) (replicate room 0) n i 0 l)) (bits_at_small s (start + w * i) w))
    (λ l. subst (λ (z : ℕ). z < 2 ^ w) (sym (get_d_past (λ j. bits_at s (start + w * j) w) (replicate room 0) n i 0 l ∙ zero_at room i)) (pow_pos w))
    (split i n)
