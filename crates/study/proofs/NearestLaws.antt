-- The nearest centre: the definitions give what `IsNearest` says, and nothing else does. Assumes nothing.
use Prim.Native.Nat.{ℕ, zero, suc, ◌-◌, ◌≤◌, ◌<◌}
use native.Mathlib.Omega.{arith}
use mathlib.Core.Path.{◌≡◌, sym, ap, ◌∙◌, subst}
use mathlib.Core.Bool.{Bool, true, false, cond}
use mathlib.Core.List.{List, ◌∷◌, map, head_d}
use mathlib.Core.List.Memᴰ.{head as here}
use mathlib.Core.List.Memᴰ.{tail as there}
use lib.Dec.{T, eqb}
use lib.ListN.{length, get_or}
use Rattle.lists.specs.Lists.{◌among◌, iota, filter}
use Rattle.lists.proofs.Tests.{eq→eqb}
use Rattle.lists.proofs.Members.{no_member, first_mem, nonempty, getD_mem, place, mem_map, map_mem, range_mem, mem_range}
use Rattle.lists.proofs.Members.{least_mem, least_le}
use Rattle.study.specs.Problem.{Problem, centres, centre_of, nearest_distance, blocks_at, nearest_block}
use Rattle.study.specs.Theorems.{Lawful, IsNearest}
use Rattle.study.proofs.ProblemLaws.{cover, blocks_at_mem, mem_blocks_at}

-- the first of k, k + 1, .. that passes p is at most any that does
first_le : (p : ℕ → Bool) (k n : ℕ) {x : ℕ} → x among iota k n → T (p x) → head_d (filter p (iota k n)) 0 ≤ x
unfolding head_d
first_le p k zero m h = no_member m
first_le p k (suc n) {x} m h = step (λ i. first_le p (suc k) n i h) (p k) (λ b. b) m
  where
    step : (x among iota (suc k) n → head_d (filter p (iota (suc k) n)) 0 ≤ x) → (b : Bool) → (T (p k) → T b) → x among k ∷ iota (suc k) n
        → head_d (cond b (k ∷ filter p (iota (suc k) n)) (filter p (iota (suc k) n))) 0 ≤ x
    step later true f i = (range_mem k (suc n) i).0
    step later false f (here e) = absurd (f (subst (λ z. T (p z)) e h))
    step later false f (there i) = later i

module _ (dist : ℕ → ℕ → ℕ) (cs : List ℕ) (t : ℕ) where
  -- how far the centre of block m lies from the tide
  abbrev far : ℕ → ℕ
  far m = dist (centre_of cs m) t

  abbrev nearest : ℕ
  nearest = nearest_distance dist cs t

  -- no centre is nearer than the nearest
  pub centre_le : {c : ℕ} → c among cs → nearest ≤ dist c t
  unfolding nearest_distance
  centre_le m = least_le (map (λ c. dist c t) cs) (mem_map (λ c. dist c t) cs m)

  nearest_le : (m : ℕ) → 1 ≤ m → m ≤ length cs → nearest ≤ far m
  unfolding centre_of
  nearest_le m l h = centre_le (getD_mem 0 cs (m - 1) (omega arith))

  -- some block's is as near
  attained : 0 < length cs → (m : ℕ) × (1 ≤ m) × (m ≤ length cs) × (far m ≡ nearest)
  unfolding nearest_distance centre_of
  attained l =
      let ds = map (λ c. dist c t) cs in
      let at = map_mem (λ c. dist c t) cs (least_mem ds (mem_map (λ c. dist c t) cs (getD_mem 0 cs 0 l))) in
      let i = place 0 cs at.1 in
      let back : suc i.0 - 1 ≡ i.0 = omega arith in
      (suc i.0, omega arith, omega (arith, i.1), ap (λ z. dist (get_or cs z 0) t) back ∙ ap (λ c. dist c t) i.2 ∙ sym at.2)

  -- those that are as near, and the first of them
  abbrev as_near : ℕ → Bool
  as_near m = eqb (far m) nearest

  first_at_most : (m : ℕ) → 1 ≤ m → m ≤ length cs → far m ≡ nearest → nearest_block dist cs t ≤ m
  unfolding nearest_block blocks_at
  first_at_most m l h e = first_le as_near 1 (length cs) (mem_range 1 (length cs) m l (omega arith)) (eq→eqb (far m) nearest e)

  first_mem_at : 0 < length cs → nearest_block dist cs t among blocks_at dist cs t nearest
  unfolding nearest_block
  first_mem_at l = let m = attained l in first_mem 0 _ (nonempty _ (mem_blocks_at dist cs t nearest m.1 m.2 m.3))

  -- the definition of the block is nearest
  pub nearest_block_lem : 0 < length cs → (nearest ≡ far (nearest_block dist cs t)) × IsNearest dist cs t (nearest_block dist cs t)
  nearest_block_lem l =
      let b = blocks_at_mem dist cs t nearest (first_mem_at l) in
      let e = b.2 in (
        sym e,
        record {
          low = b.0;
          high = b.1;
          no_nearer = λ k a b. omega (arith, nearest_le k a b, e);
          no_lower = λ k a b f. first_at_most k a b (f ∙ e);
        },
      )

  -- and nothing else is
  pub nearest_only : (m : ℕ) → IsNearest dist cs t m → (m ≡ nearest_block dist cs t) × (far m ≡ nearest)
  nearest_only m N =
      let F = nearest_block_lem (omega (arith, N.low, N.high)) in
      let first = F.1 in
      let e : far m ≡ nearest =
      omega (arith, F.0, N.no_nearer (nearest_block dist cs t) first.low first.high, nearest_le m N.low N.high) in
      let below = N.no_lower (nearest_block dist cs t) first.low first.high (sym F.0 ∙ sym e) in
      (omega (arith, below, first_at_most m N.low N.high e), e)

-- for every tide of a lawful problem there is a centre
pub some_centre : (P : Problem) → Lawful P → (g t : ℕ) → t < P.size → 0 < length (centres P g)
some_centre P L g t l = let c = cover P g L t l in let i = place 0 (centres P g) c.1 in omega (arith, i.1)
