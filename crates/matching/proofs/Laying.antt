-- The turns of the loops that lay out the slots. Assumes nothing.
use mathlib.Core.Path.{◌≡◌, refl, sym, ap, ◌∙◌}
use mathlib.Core.List.{List}
use mathlib.Core.Bool.{Bool, true, false, cond}
use Prim.Native.Nat.{ℕ, suc, ◌+◌, ◌*◌, ◌-◌, ◌≤◌, ◌<◌}
use native.Mathlib.Nat.{mul-le-mul_right}
use native.Mathlib.Omega.{arith}
use lib.ListN.{set, length-set}
use lib.Seq.{get_or-set_same, get_or-set_other}
use Rattle.lists.specs.Lists.{sum_below, bit, count_below, at}
use Rattle.lists.proofs.Counts.{sum_zero, sum_suc, count_zero, count_same}
use Rattle.lists.proofs.Counting.{sum_next, sum_front, count_next}
use Rattle.matching.specs.Slots.{total, block_sum, slot_test, Slots, Tables, Added, BlockAdded}

-- the slots of the settings below j of block m stand from start up to pos
pub record PartAdded (start m j pos : ℕ) (b owner₀ kind₀ owner kind : List ℕ) : Type 0 where
  pub tables : Tables owner kind
  pub place : pos ≡ start + sum_below j (λ i. at b i)
  pub law : (Q : ℕ → ℕ → Bool)
      → count_below pos (slot_test Q owner kind) ≡ count_below start (slot_test Q owner₀ kind₀) + sum_below j (λ i. cond (Q m (i + 1)) (at b i) 0)

-- the slots of the blocks below m stand up to pos
pub record LaidOut (m pos b0 : ℕ) (b owner kind : List ℕ) : Type 0 where
  pub tables : Tables owner kind
  pub place : pos ≡ m * b0
  pub law : (Q : ℕ → ℕ → Bool) → count_below pos (slot_test Q owner kind) ≡ sum_below m (block_sum Q b0 b)

cond_more : (q : Bool) (i : ℕ) → cond q (i + 1) 0 ≡ cond q i 0 + bit q
cond_more true i = refl
cond_more false i = refl

cond_zero : (q : Bool) → ◌≡◌ {A = ℕ} (cond q 0 0) 0
cond_zero true = refl
cond_zero false = refl

pub added_start : {pos m k : ℕ} {owner kind : List ℕ} → Tables owner kind → Added pos m k 0 owner kind owner kind
added_start {pos} {m} {k} {owner} {kind} ta =
    record {
      tables = ta;
      law = λ Q.
          let q : ℕ → Bool = slot_test Q owner kind in
          let e : count_below (pos + 0) q ≡ count_below pos q = ap (λ (x : ℕ). count_below x q) (omega arith) in
          omega (arith, cond_zero (Q m k));
    }

pub added_more : {pos m k i : ℕ} {owner₀ kind₀ owner kind : List ℕ} → Added pos m k i owner₀ kind₀ owner kind → pos + i < 120
    → Added pos m k (i + 1) owner₀ kind₀ (set owner (pos + i) m) (set kind (pos + i) k)
added_more {pos} {m} {k} {i} {owner₀} {kind₀} {owner} {kind} ad l =
    record {
      tables = record { owner_long = length-set owner (pos + i) m ∙ ad.tables.owner_long; kind_long = length-set kind (pos + i) k ∙ ad.tables.kind_long };
      law = law;
    }
  where
    law : (Q : ℕ → ℕ → Bool) → count_below (pos + (i + 1)) (slot_test Q (set owner (pos + i) m) (set kind (pos + i) k))
        ≡ count_below pos (slot_test Q owner₀ kind₀) + cond (Q m k) (i + 1) 0
    law Q =
        let q : ℕ → Bool = slot_test Q (set owner (pos + i) m) (set kind (pos + i) k) in
        let x : at (set owner (pos + i) m) (pos + i) ≡ m = get_or-set_same owner (pos + i) m 0 (omega (arith, ad.tables.owner_long)) in
        let y : at (set kind (pos + i) k) (pos + i) ≡ k = get_or-set_same kind (pos + i) k 0 (omega (arith, ad.tables.kind_long)) in
        let here : bit (q (pos + i)) ≡ bit (Q m k) = rw (x, y) in
        let below : count_below (pos + i) q ≡ count_below (pos + i) (slot_test Q owner kind)
        = count_same (pos + i) q (slot_test Q owner kind)
        (λ s h. rw (get_or-set_other owner (pos + i) s m 0 (λ q. omega arith), get_or-set_other kind (pos + i) s k 0 (λ q. omega arith))) in
        let e : count_below (pos + (i + 1)) q ≡ count_below (pos + i + 1) q = ap (λ (x : ℕ). count_below x q) (omega arith) in
        omega (arith, count_next (pos + i) q, cond_more (Q m k) i, ad.law Q)

pub part_start : {start m : ℕ} {b owner kind : List ℕ} → Tables owner kind → PartAdded start m 0 start b owner kind owner kind
part_start {m = m} {b = b} ta =
    record {
      tables = ta;
      place = omega (arith, sum_zero (λ i. at b i));
      law = λ Q. omega (arith, sum_zero (λ i. cond (Q m (i + 1)) (at b i) 0));
    }

module _ {start m j pos b0 : ℕ} {b owner₀ kind₀ owner kind : List ℕ} (pa : PartAdded start m j pos b owner₀ kind₀ owner kind) (fit : total b ≤ b0) where
  -- the slots of the setting j + 1 fit
  pub part_room : j < 8 → pos + at b j ≤ start + b0
  part_room h = omega (arith, sum_front (λ i. at b i) (suc j) 8 h, sum_suc j (λ i. at b i), pa.place)

  pub part_more : {size pos' : ℕ} {owner' kind' : List ℕ} → size ≡ at b j → pos' ≡ pos + size → Added pos m (j + 1) size owner kind owner' kind'
      → PartAdded start m (j + 1) pos' b owner₀ kind₀ owner' kind'
  part_more e e' ad =
      let added = rw e at ad in
      rw (e', e) (record {
        tables = added.tables;
        place = omega (arith, sum_next j (λ i. at b i), pa.place);
        law = λ Q. omega (arith, sum_next j (λ i. cond (Q m (i + 1)) (at b i) 0), added.law Q, pa.law Q);
      })

  pub part_end : {size : ℕ} {owner' kind' : List ℕ} → 8 ≤ j → j ≤ 8 → size ≡ start + b0 - pos → Added pos m 0 size owner kind owner' kind'
      → BlockAdded start m b0 b owner₀ kind₀ owner' kind'
  unfolding block_sum
  part_end {owner' = owner'} {kind' = kind'} h h' es added =
      let ad = rw es at added in
      record {
        tables = ad.tables;
        law = λ Q.
            let q : j ≡ 8 = omega arith in
            let p : pos ≡ start + total b = pa.place ∙ ap (λ (i : ℕ). start + sum_below i (λ j. at b j)) q in
            let t : ℕ → Bool = slot_test Q owner' kind' in
            let e : count_below (pos + (start + b0 - pos)) t ≡ count_below (start + b0) t = ap (λ (x : ℕ). count_below x t) (omega arith) in
            let r : cond (Q m 0) (start + b0 - pos) 0 ≡ cond (Q m 0) (b0 - total b) 0 = ap (λ (x : ℕ). cond (Q m 0) x 0) (omega arith) in
            let l = pa.law Q ∙ ap (λ (i : ℕ). count_below start (slot_test Q owner₀ kind₀) + sum_below i (λ j. cond (Q m (j + 1)) (at b j) 0)) q in
            omega (arith, ad.law Q);
      }

pub laid_start : {pos b0 : ℕ} {b owner kind : List ℕ} → pos ≡ 0 → Tables owner kind → LaidOut 0 pos b0 b owner kind
laid_start {b0 = b0} {b} {owner} {kind} e ta =
    rw e (record { tables = ta; place = omega arith; law = λ Q. omega (arith, count_zero (slot_test Q owner kind), sum_zero (block_sum Q b0 b)) })

module _ {m pos b0 : ℕ} {b owner kind : List ℕ} (la : LaidOut m pos b0 b owner kind) where
  pub laid_room : {blocks : ℕ} → m < blocks → pos + b0 ≤ blocks * b0
  laid_room h = let a = mul-le-mul_right b0 h in omega (arith, la.place)

  pub laid_more : {pos' : ℕ} {owner' kind' : List ℕ} → pos' ≡ pos + b0 → BlockAdded pos m b0 b owner kind owner' kind'
      → LaidOut (m + 1) pos' b0 b owner' kind'
  laid_more e ba =
      rw e (record {
        tables = ba.tables;
        place = omega (arith, la.place);
        law = λ Q. omega (arith, sum_next m (block_sum Q b0 b), ba.law Q, la.law Q);
      })

  pub laid_end : {blocks : ℕ} → blocks ≤ m → m ≤ blocks → Slots blocks b0 b owner kind
  laid_end {blocks} h h' =
      record {
        law = λ Q.
            let q : m ≡ blocks = omega arith in
            ap (λ (x : ℕ). count_below x (slot_test Q owner kind)) (sym (la.place ∙ ap (λ (i : ℕ). i * b0) q))
            ∙ la.law Q ∙ ap (λ (i : ℕ). sum_below i (block_sum Q b0 b)) q;
      }
