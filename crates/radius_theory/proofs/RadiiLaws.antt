-- The radius, by steps: no candidate below the present one has an assignment; and how far a rejection reaches. "None" ranges over all
-- radii of an interval, not over candidates, so that a jump needs no list of candidates. Assumes nothing.
use Prim.Native.Nat.{ℕ, ◌≤◌, ◌<◌}
use native.Mathlib.Omega.{arith}
use native.Mathlib.Nat.{le_trans}
use mathlib.Core.Path.{◌≡◌, refl, sym, ap, ◌∙◌, subst}
use mathlib.Core.Logic.{◌⊎◌, inl, inr, ⊎_elim}
use mathlib.Core.List.Memᴰ
use mathlib.Core.List.Memᴰ.{head as here}
use mathlib.Core.List.Memᴰ.{tail as there}
use mathlib.Core.List.{List, [], head_d}
use lib.Dec.{T}
use Rattle.lists.specs.Lists.{◌among◌, iota, tabulate}
use Rattle.lists.proofs.Tests.{split}
use Rattle.lists.proofs.Members.{mem_flat_map, flat_map_mem, mem_range, range_mem}
use Rattle.lists.proofs.Tables.{mem_tabulate, tabulate_mem}
use Rattle.study.specs.Limits.{cell, max_distance}
use Rattle.study.specs.Problem.{Problem, centres, centre_of, assignments, candidates, radius}
use Rattle.study.specs.Theorems.{Assignment}
use Rattle.study.proofs.ProblemLaws.{assignable_by, first_assignment, is_radius}
use Rattle.study.proofs.Approximation.{assignable_exactly}
use Rattle.promise.specs.Promise.{Test}
use Rattle.radius_theory.specs.Arrays.{Represents, ball}
use Rattle.radius_theory.specs.Radii.{Empty, Lowest, Ahead, NoneTo}
use Rattle.radius_theory.proofs.Gaps.{same_centres, first_centre, ball_full}

pub lowest_radius : (P : Problem) (g : ℕ) → Lowest P g → (xs : List ℕ) → Assignment P g xs → radius P ≡ g
lowest_radius P g L xs A =
    is_radius P g
    (record {
      candidate = L.held;
      assigned = assignable_by P g xs A;
      lowest = λ h m t. ⊎_elim (λ s. absurd (L.below h m s (head_d (assignments P h) []) (first_assignment P h t))) (λ s. s) (split h g);
    })

module _ {d : List ℕ} {n : ℕ} {E : Test} {P : Problem} (Q : Represents d n E P) where
  -- ---- candidates: 0 and every distance

  pub zero_candidate : 0 among candidates P
  unfolding candidates
  zero_candidate = here refl

  ordered_candidate : (i j : ℕ) → i < j → j < P.size → P.dist i j among candidates P
  unfolding candidates
  ordered_candidate i j h l =
      there (mem_flat_map (λ t. tabulate t (λ u. P.dist u t)) (iota 0 P.size) (mem_range 0 P.size j (omega arith) (omega arith))
      (mem_tabulate j (λ u. P.dist u j) i h))

  pub dist_candidate : (i j : ℕ) → i < n → j < n → cell d i j among candidates P
  dist_candidate i j h l = by (split i j) (split j i)
    where
      by : (i < j) ⊎ (j ≤ i) → (j < i) ⊎ (i ≤ j) → cell d i j among candidates P
      by (inl a) b = Memᴰ.cast (sym (Q.dist i j h l)) (ordered_candidate i j a (omega (arith, Q.size)))
      by (inr a) (inl b) = Memᴰ.cast (sym (Q.dist i j h l) ∙ Q.lawful.symmetric.both_ways i j) (ordered_candidate j i b (omega (arith, Q.size)))
      by (inr a) (inr b) =
          let e : i ≡ j = omega arith in
          Memᴰ.cast (sym (Q.dist i j h l) ∙ ap (λ z. P.dist z j) e ∙ Q.lawful.symmetric.itself j) zero_candidate

  -- and nothing else
  pub candidate_is : (h : ℕ) → h among candidates P → (h ≡ 0) ⊎ ((i : ℕ) × (j : ℕ) × (i < n) × (j < n) × (h ≡ cell d i j))
  unfolding candidates
  candidate_is h (here e) = inl e
  candidate_is h (there m) =
      let r = flat_map_mem (λ t. tabulate t (λ u. P.dist u t)) (iota 0 P.size) m in
      let q = tabulate_mem r.0 (λ u. P.dist u r.0) r.2 in
      let b : r.0 < n = omega (arith, Q.size, range_mem 0 P.size r.1) in
      let a : q.0 < n = omega (arith, q.1) in
      inr (q.0, r.0, a, b, q.2 ∙ Q.dist q.0 r.0 a b)

  pub candidate_small : (h : ℕ) → h among candidates P → h ≤ max_distance
  candidate_small h m = ⊎_elim (λ e. omega arith) (λ q. omega (arith, q.4, Q.small q.0 q.1 q.2 q.3)) (candidate_is h m)

  -- ---- from one candidate to the next

  -- some candidate has an assignment, so the search ends
  exhausted : 0 < n → ((h : ℕ) → h among candidates P → Empty P h) → ⊥
  exhausted pos none =
      let f = (assignable_exactly P Q.lawful (omega (arith, Q.size))).1 Q.whole in
      none f.0 f.1 (head_d (assignments P f.0) []) (first_assignment P f.0 f.2)

  -- the least candidate from a bound on, below which none has an assignment
  pub lowest_start : 0 < n → (g r : ℕ) → ((h : ℕ) → h < g → Empty P h) → ((h : ℕ) → h among candidates P → g ≤ h → r ≤ h) → Ahead P r → Lowest P r
  lowest_start pos g r none least (inl e) =
      absurd (exhausted pos (λ h m. ⊎_elim (λ l. none h l) (λ l. absurd (omega (arith, least h m l, candidate_small h m))) (split h g)))
  lowest_start pos g r none least (inr m) =
      record { held = m; below = λ h k l. ⊎_elim (λ q. none h q) (λ q. absurd (omega (arith, least h k q))) (split h g) }

  pub lowest_next : 0 < n → (g r : ℕ) → Lowest P g → NoneTo P g r → Ahead P r → Lowest P r
  lowest_next pos g r L none (inl e) =
      absurd (exhausted pos (λ h m. ⊎_elim (λ l. L.below h m l) (λ l. none h l (omega (arith, candidate_small h m))) (split h g)))
  lowest_next pos g r L none (inr m) =
      record { held = m; below = λ h k l. ⊎_elim (λ q. L.below h k q) (λ q. none h q l) (split h g) }

  -- ---- ways to see that there is none, and how far each reaches

  -- any two centres at g are at least r apart
  abbrev pub Spread : ℕ → ℕ → Type 0
  Spread g r = (c t : ℕ) → c among centres P g → t among centres P g → c < t → r ≤ P.dist c t

  -- until two centres come within the radius they stay
  pub stays : (g h r : ℕ) → g ≤ h → h < r → Spread g r → centres P h ≡ centres P g
  stays g h r up low w = same_centres P g h up (λ c t m k l. le_trans low (w c t m k l))

  -- the first tide is always a centre: none where its ball falls short
  pub none_first : 0 < n → (g : ℕ) → (T (P.enough (ball d 0 g)) → ⊥) → (h : ℕ) → h ≤ g → Empty P h
  unfolding centre_of
  none_first pos g short h up xs A =
      let l : 0 < P.size = omega (arith, Q.size) in
      short (subst (λ c. T (P.enough (ball d c g))) (first_centre P h l) (ball_full Q h xs A g up 1 (omega arith) (omega (arith, A.low 0 l, A.high 0 l))))
