-- The slots of a tree that are all scanned, with no free tide seen, are a Hall violator: no matching gives every slot a tide. Assumes nothing.
use mathlib.Core.Path.{◌≡◌, sym, ap, ◌∙◌}
use mathlib.Core.List.{List}
use Prim.Native.Nat.{ℕ, ◌-◌, ◌≤◌, ◌<◌}
use native.Mathlib.Omega.{arith}
use Rattle.lists.proofs.Counts.{pigeonhole}
use Rattle.lists.specs.Lists.{at}
use Rattle.matching.specs.Matching.{Saturating, Unsaturable, Matching, Tree, Closed}

module _ {E : ℕ → ℕ → Type 0} {slots tides tail : ℕ} {tide slot from rank queue : List ℕ} (small : slots ≤ 120)
    (v : Matching E slots tides tide slot) (tr : Tree E slots tides tail tide slot from rank queue) (cl : Closed E slots tides tail from rank)
    (g : ℕ → ℕ) (sat : Saturating E slots tides g) where
  -- the tide of the i-th slot of the tree
  abbrev tide_of : ℕ → ℕ
  tide_of i = g (at queue i)

  tide_seen : (i : ℕ) → i < tail → at from (tide_of i) < slots
  tide_seen i h =
      let e = tr.entry i h in
      cl (at queue i) e (rw (tr.place i h) h) (tide_of i) (sat.below _ e) (sat.edge _ e)

  -- the rank of that tide's holder
  abbrev next : ℕ → ℕ
  next i = at rank (at slot (tide_of i))

  next_pos : (i : ℕ) → i < tail → 0 < next i
  next_pos i h = let r = tr.rises (tide_of i) (sat.below _ (tr.entry i h)) (tide_seen i h) in omega arith

  next_lt : (i : ℕ) → i < tail → next i < tail
  next_lt i h =
      let b = sat.below _ (tr.entry i h) in
      let f = tide_seen i h in
      tr.ranked _ (tr.holder (tide_of i) b f) (tr.joined (tide_of i) b f)

  -- the holder, by its rank
  next_home : (i : ℕ) → i < tail → at queue (next i) ≡ at slot (tide_of i)
  next_home i h =
      let b = sat.below _ (tr.entry i h) in
      let f = tide_seen i h in
      tr.home _ (tr.holder (tide_of i) b f) (tr.joined (tide_of i) b f)

  -- the tide, by the holder's rank
  next_tide : (i : ℕ) → i < tail → at tide (at queue (next i)) ≡ tide_of i
  next_tide i h =
      let b = sat.below _ (tr.entry i h) in
      ap (at tide) (next_home i h) ∙ v.back (tide_of i) b (tr.holder (tide_of i) b (tide_seen i h))

  next_inj : (i j : ℕ) → i < tail → j < tail → next i ≡ next j → i ≡ j
  next_inj i j hi hj e =
      let t : tide_of i ≡ tide_of j = sym (next_tide i hi) ∙ ap (λ (k : ℕ). at tide (at queue k)) e ∙ next_tide j hj in
      let q : at queue i ≡ at queue j = sat.apart _ _ (tr.entry i hi) (tr.entry j hj) t in
      sym (tr.place i hi) ∙ ap (at rank) q ∙ tr.place j hj

  absurdity : ⊥
  absurdity =
      let some = tr.some in
      let l =
      pigeonhole
      tail
      (tail - 1)
      (λ i. next i - 1)
      (λ i h. omega (arith, next_lt i h, next_pos i h))
      (λ i j hi hj e. next_inj i j hi hj (omega (arith, next_pos i hi, next_pos j hj))) in
      omega arith

pub hall : {E : ℕ → ℕ → Type 0} {slots tides tail : ℕ} {tide slot from rank queue : List ℕ} → slots ≤ 120
    → Matching E slots tides tide slot → Tree E slots tides tail tide slot from rank queue → Closed E slots tides tail from rank → Unsaturable E slots tides
hall small v tr cl g sat = absurdity small v tr cl g sat
