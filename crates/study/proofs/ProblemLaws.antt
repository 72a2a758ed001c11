-- Laws of the definitions of Problem.antt, by which everything above speaks of them. Assumes nothing.
use Prim.Native.Nat.{ℕ, zero, suc, ◌-◌, ◌≤◌, ◌<◌, zero-le}
use native.Mathlib.Nat.{not-suc-le-zero, le_trans}
use native.Mathlib.Omega.{arith}
use mathlib.Core.Path.{◌≡◌, refl, sym, ap, ap₂, ◌∙◌, subst}
use mathlib.Core.Logic.{◌⊎◌, inl, inr, ⊎_elim, ◌↔◌}
use mathlib.Core.Bool.{Bool, true, false, cond, ◌&&◌, not}
use mathlib.Core.List.Memᴰ
use mathlib.Core.List.{List, [], ◌∷◌, ◌++◌, head_d}
use mathlib.Core.List.Memᴰ.{head as here}
use mathlib.Core.List.Memᴰ.{tail as there}
use lib.Dec.{T, ltb, eqb, ltb→lt, nltb→le, eqb→eq}
use lib.ListN.{length, get_or, length-append, get_or-append}
use lib.Seq.{get_or-append_seam}
use Rattle.lists.specs.Lists.{◌among◌, iota, greatest, tabulate, all_of, filter, tuples}
use Rattle.lists.proofs.Tests.{and_T, T-left, T-right, split, cond_yes, eq→eqb, every_at, every_of}
use Rattle.lists.proofs.Members.{no_member, all_at, all_of_lem, not_all, filter_mem, mem_filter, first_mem, nonempty, getD_mem, mem_flat_map, flat_map_mem}
use Rattle.lists.proofs.Members.{range_mem, mem_range, least_mem, least_le, greatest_ge, greatest_le, greatest_is}
use Rattle.lists.proofs.Tables.{length_tabulate, get_d_tabulate, mem_tabulate}
use Rattle.lists.proofs.Tuples.{Tuple, tuples_mem, mem_tuples}
use Rattle.study.specs.Problem.{Problem, centres_among, centres, centre_of, blocks_at, choices, block, labels, all_sufficient, assignments}
use Rattle.study.specs.Problem.{assignable, candidates, radius, diameter, greatest_diameter, Feasible, feasible}
use Rattle.study.specs.Theorems.{Symmetric, Lawful, Assignment}

-- ---- centres

grow_mem : (b : Bool) (cs : List ℕ) (t : ℕ) {c : ℕ} → c among cond b (cs ++ (t ∷ [])) cs → (c among cs) ⊎ (c ≡ t)
grow_mem true cs t m = ⊎_elim (λ h. inl h) (λ h. inr (Memᴰ.eq_of_singleton h)) (Memᴰ.append_cases cs m)
grow_mem false cs t m = inl m

mem_grow : (b : Bool) (cs : List ℕ) (t : ℕ) {c : ℕ} → c among cs → c among cond b (cs ++ (t ∷ [])) cs
mem_grow true cs t m = Memᴰ.append_left (t ∷ []) m
mem_grow false cs t m = m

module _ (P : Problem) (g : ℕ) where
  far : ℕ → ℕ → Bool
  far t c = ltb g (P.dist c t)

  pub among_below : (t : ℕ) {c : ℕ} → c among centres_among P.dist g t → c < t
  unfolding centres_among far
  among_below zero m = no_member m
  among_below (suc t) m =
      let cs = centres_among P.dist g t in
      ⊎_elim (λ h. let l = among_below t h in omega arith) (λ e. omega arith) (grow_mem (all_of (far t) cs) cs t m)

  pub centre_below : {c : ℕ} → c among centres P g → c < P.size
  unfolding centres
  centre_below m = among_below P.size m

  -- each tide has a centre at most g away
  among_cover : Lawful P → (t u : ℕ) → u < t → (c : ℕ) × (c among centres_among P.dist g t) × (P.dist c u ≤ g)
  unfolding centres_among far
  among_cover L zero u l = absurd (not-suc-le-zero l)
  among_cover L (suc t) u l =
      ⊎_elim
      (λ s. let r = among_cover L t u s in (r.0, mem_grow (all_of (far t) (centres_among P.dist g t)) (centres_among P.dist g t) t r.1, r.2))
      (λ s. let e : u ≡ t = omega arith in last e (all_of (far t) (centres_among P.dist g t)) (λ n. n))
      (split u t)
    where
      last : u ≡ t → (b : Bool) → (T (not b) → T (not (all_of (far t) (centres_among P.dist g t))))
          → (c : ℕ) × (c among cond b (centres_among P.dist g t ++ (t ∷ [])) (centres_among P.dist g t)) × (P.dist c u ≤ g)
      last e true f =
          let itself : P.dist t t ≤ g = rw (L.symmetric.itself t) (omega arith) in
          (t, Memᴰ.append_right (centres_among P.dist g t) (here refl), subst (λ v. P.dist t v ≤ g) (sym e) itself)
      last e false f =
          let r = not_all (far t) (centres_among P.dist g t) (f tt) in
          (r.0, r.1, subst (λ v. P.dist r.0 v ≤ g) (sym e) (nltb→le g (P.dist r.0 t) r.2))

  pub cover : Lawful P → (t : ℕ) → t < P.size → (c : ℕ) × (c among centres P g) × (P.dist c t ≤ g)
  unfolding centres
  cover L t l = among_cover L P.size t l

  -- two centres are farther than g apart
  Apart : List ℕ → Type 0
  Apart cs = (i j : ℕ) → i < j → j < length cs → g < P.dist (get_or cs i 0) (get_or cs j 0)

  snoc_apart : (cs : List ℕ) (t : ℕ) → Apart cs → T (all_of (far t) cs) → Apart (cs ++ (t ∷ []))
  unfolding far Apart
  snoc_apart cs t ih s i j h k =
      ⊎_elim
      (λ l. rw (get_or-append cs (t ∷ []) 0 i (omega arith), get_or-append cs (t ∷ []) 0 j l) (ih i j h l))
      (λ q. let e : j ≡ length cs = omega (arith, length-append cs (t ∷ [])) in
      let l : i < length cs = omega arith in
      let new = ltb→lt g (P.dist (get_or cs i 0) t) (all_at (far t) cs s (getD_mem 0 cs i l)) in
      rw (e, get_or-append cs (t ∷ []) 0 i l, get_or-append_seam cs t [] 0) new)
      (split j (length cs))

  among_apart : (t : ℕ) → Apart (centres_among P.dist g t)
  unfolding centres_among far Apart
  among_apart zero = λ i j h l. absurd (not-suc-le-zero l)
  among_apart (suc t) = step (among_apart t) (all_of (far t) (centres_among P.dist g t)) (λ s. s)
    where
      cs : List ℕ
      cs = centres_among P.dist g t

      step : Apart cs → (b : Bool) → (T b → T (all_of (far t) cs)) → Apart (cond b (cs ++ (t ∷ [])) cs)
      step ih true f = snoc_apart cs t ih (f tt)
      step ih false f = ih

  pub apart : (i j : ℕ) → i < j → j < length (centres P g) → g < P.dist (get_or (centres P g) i 0) (get_or (centres P g) j 0)
  unfolding centres Apart
  apart = among_apart P.size

-- ---- diameters

pick_le : (b : Bool) (x k : ℕ) → (T b → x ≤ k) → cond b x 0 ≤ k
pick_le true x k h = h tt
pick_le false x k h = omega arith

pick_is : (b : Bool) (x : ℕ) → (cond b x 0 ≡ 0) ⊎ (cond b x 0 ≡ x)
pick_is true x = inr refl
pick_is false x = inl refl

-- the greatest distance of two tides that pass a test is at most k where each such distance is, and at least each of them
module _ (P : Problem) (q : ℕ → ℕ → Bool) where
  abbrev widest : ℕ
  widest = greatest P.size (λ t. greatest t (λ u. cond (q u t) (P.dist u t) 0))

  widest_le : (k : ℕ) → ((u t : ℕ) → u < t → t < P.size → T (q u t) → P.dist u t ≤ k) → widest ≤ k
  widest_le k h = greatest_le P.size _ k (λ t l. greatest_le t _ k (λ u m. pick_le (q u t) (P.dist u t) k (h u t m l)))

  widest_ge : (u t : ℕ) → u < t → t < P.size → T (q u t) → P.dist u t ≤ widest
  widest_ge u t m l e =
      le_trans (rw (cond_yes (q u t) (P.dist u t) 0 e) (omega arith))
      (le_trans (greatest_ge t (λ v. cond (q v t) (P.dist v t) 0) u m)
      (greatest_ge P.size (λ s. greatest s (λ v. cond (q v s) (P.dist v s) 0)) t l))

module _ (P : Problem) (D : ℕ → ℕ) where
  pub greatest_diameter_le : (k : ℕ) → ((u t : ℕ) → u < t → t < P.size → D u ≡ D t → P.dist u t ≤ k) → greatest_diameter P D ≤ k
  unfolding greatest_diameter
  greatest_diameter_le k h = widest_le P (λ u t. eqb (D u) (D t)) k (λ u t m l e. h u t m l (eqb→eq (D u) (D t) e))

  below_ge : (u t : ℕ) → u < t → t < P.size → D u ≡ D t → P.dist u t ≤ greatest_diameter P D
  unfolding greatest_diameter
  below_ge u t m l e = widest_ge P (λ u t. eqb (D u) (D t)) u t m l (eq→eqb (D u) (D t) e)

  pub greatest_diameter_ge : Symmetric P → (u t : ℕ) → u < P.size → t < P.size → D u ≡ D t → P.dist u t ≤ greatest_diameter P D
  greatest_diameter_ge L u t k l e =
      ⊎_elim (λ s. below_ge u t s l e)
      (λ s. ⊎_elim (λ r. rw (L.both_ways u t) (below_ge t u r k (sym e)))
      (λ r. let q : u ≡ t = omega arith in rw (q, L.itself t) zero-le) (split t u))
      (split u t)

  -- it is 0 or a distance
  pub greatest_diameter_candidate : greatest_diameter P D among candidates P
  unfolding greatest_diameter candidates
  greatest_diameter_candidate =
      ⊎_elim (λ e. here e)
      (λ r. ⊎_elim (λ e. here (r.2 ∙ e))
      (λ q. ⊎_elim (λ e. here (r.2 ∙ q.2 ∙ e))
      (λ e. there (Memᴰ.cast (r.2 ∙ q.2 ∙ e)
      (mem_flat_map (λ t. tabulate t (λ u. P.dist u t)) (iota 0 P.size) (mem_range 0 P.size r.0 (omega arith) (omega (arith, r.1)))
      (mem_tabulate r.0 (λ u. P.dist u r.0) q.0 q.1))))
      (pick_is (eqb (D q.0) (D r.0)) (P.dist q.0 r.0)))
      (greatest_is r.0 (λ u. cond (eqb (D u) (D r.0)) (P.dist u r.0) 0)))
      (greatest_is P.size (λ t. greatest t (λ u. cond (eqb (D u) (D t)) (P.dist u t) 0)))

  diameter_le : (m : ℕ) → diameter P D m ≤ greatest_diameter P D
  unfolding diameter block
  diameter_le m =
      widest_le P (λ u t. block D m u && block D m t) (greatest_diameter P D) (λ u t k l h.
      below_ge u t k l (eqb→eq (D u) m (T-left (block D m u) (block D m t) h) ∙ sym (eqb→eq (D t) m (T-right (block D m u) (block D m t) h))))

  diameter_ge : (u t : ℕ) → u < t → t < P.size → D u ≡ D t → P.dist u t ≤ diameter P D (D t)
  unfolding diameter block
  diameter_ge u t k l e =
      widest_ge P (λ u s. block D (D t) u && block D (D t) s) u t k l
      (and_T (block D (D t) u) (block D (D t) t) (eq→eqb (D u) (D t) e) (eq→eqb (D t) (D t) refl))

  -- where the blocks are 1 .. l, it is the greatest of their diameters
  pub greatest_diameter_is : (l : ℕ) → ((t : ℕ) → t < P.size → 1 ≤ D t) → ((t : ℕ) → t < P.size → D t ≤ l)
      → greatest_diameter P D ≡ greatest l (λ i. diameter P D (suc i))
  greatest_diameter_is l low high =
      let a : greatest_diameter P D ≤ greatest l (λ i. diameter P D (suc i)) = greatest_diameter_le _ pair in
      let b : greatest l (λ i. diameter P D (suc i)) ≤ greatest_diameter P D = greatest_le l _ (greatest_diameter P D) (λ i k. diameter_le (suc i)) in
      omega arith
    where
      pair : (u t : ℕ) → u < t → t < P.size → D u ≡ D t → P.dist u t ≤ greatest l (λ i. diameter P D (suc i))
      pair u t k s e =
          let j : suc (D t - 1) ≡ D t = omega (arith, low t s) in
          le_trans (diameter_ge u t k s e)
          (le_trans (rw j (omega arith)) (greatest_ge l (λ i. diameter P D (suc i)) (D t - 1) (omega (arith, low t s, high t s))))

  pub feasible-T : T (feasible P D) ↔ Feasible P D
  unfolding feasible
  feasible-T = (every_at P.size (λ t. P.enough (block D (D t))), every_of P.size (λ t. P.enough (block D (D t))))

-- ---- a partition is what it gives the tides

pub blocks_same : (D E : ℕ → ℕ) (m t : ℕ) → D t ≡ E t → block D m t ≡ block E m t
unfolding block
blocks_same D E m t e = ap (λ z. eqb z m) e

pub greatest_same : (n : ℕ) (f h : ℕ → ℕ) → ((t : ℕ) → t < n → f t ≡ h t) → greatest n f ≡ greatest n h
greatest_same n f h e =
    let a = greatest_le n f (greatest n h) (λ t l. rw (e t l) (greatest_ge n h t l)) in
    let b = greatest_le n h (greatest n f) (λ t l. rw (← (e t l)) (greatest_ge n f t l)) in
    omega arith

module _ (P : Problem) (D E : ℕ → ℕ) where
  pub diameter_same : (m : ℕ) → ((t : ℕ) → t < P.size → D t ≡ E t) → diameter P D m ≡ diameter P E m
  unfolding diameter
  diameter_same m e =
      greatest_same P.size _ _ (λ t l. greatest_same t _ _ (λ u k.
      ap₂ (λ a b. cond (a && b) (P.dist u t) 0) (blocks_same D E m u (e u (omega arith))) (blocks_same D E m t (e t l))))

  pub greatest_diameter_same : ((t : ℕ) → t < P.size → D t ≡ E t) → greatest_diameter P D ≡ greatest_diameter P E
  unfolding greatest_diameter
  greatest_diameter_same e =
      greatest_same P.size _ _ (λ t l. greatest_same t _ _ (λ u k. ap₂ (λ a b. cond (eqb a b) (P.dist u t) 0) (e u (omega arith)) (e t l)))

-- ---- the blocks at one distance

module _ (dist : ℕ → ℕ → ℕ) (cs : List ℕ) (t x : ℕ) where
  pub blocks_at_mem : {m : ℕ} → m among blocks_at dist cs t x → (1 ≤ m) × (m ≤ length cs) × (dist (centre_of cs m) t ≡ x)
  unfolding blocks_at
  blocks_at_mem {m} h =
      let r = filter_mem (λ m. eqb (dist (centre_of cs m) t) x) (iota 1 (length cs)) h in
      let q = range_mem 1 (length cs) r.0 in
      (q.0, omega (arith, q.1), eqb→eq (dist (centre_of cs m) t) x r.1)

  pub mem_blocks_at : {m : ℕ} → 1 ≤ m → m ≤ length cs → dist (centre_of cs m) t ≡ x → m among blocks_at dist cs t x
  unfolding blocks_at
  mem_blocks_at {m} low high e =
      mem_filter (λ m. eqb (dist (centre_of cs m) t) x) (iota 1 (length cs)) (mem_range 1 (length cs) m low (omega arith))
      (eq→eqb (dist (centre_of cs m) t) x e)

-- ---- choices: the blocks whose centre is at most g away. All else that is used of them is `choice_before` (Dictionary.antt)

pub record Choice (P : Problem) (g : ℕ) (cs : List ℕ) (t m : ℕ) : Type 0 where
  pub low : 1 ≤ m
  pub high : m ≤ length cs
  pub in_radius : P.dist (centre_of cs m) t ≤ g

pub choices_mem : (P : Problem) (g : ℕ) (cs : List ℕ) (t m : ℕ) → m among choices P g cs t → Choice P g cs t m
unfolding choices
choices_mem P g cs t m h =
    let s = flat_map_mem (blocks_at P.dist cs t) (iota 0 (suc g)) h in
    let b = blocks_at_mem P.dist cs t s.0 s.2 in
    record { low = b.0; high = b.1; in_radius = omega (arith, b.2, range_mem 0 (suc g) s.1) }

pub mem_choices : (P : Problem) (g : ℕ) (cs : List ℕ) (t m : ℕ) → Choice P g cs t m → m among choices P g cs t
unfolding choices
mem_choices P g cs t m c =
    let x = P.dist (centre_of cs m) t in
    mem_flat_map (blocks_at P.dist cs t) (iota 0 (suc g)) (mem_range 0 (suc g) x zero-le (omega (arith, c.in_radius)))
    (mem_blocks_at P.dist cs t x c.low c.high refl)

-- ---- assignments

module _ (P : Problem) (g : ℕ) (xs : List ℕ) where
  abbrev cs : List ℕ
  cs = centres P g

  -- the choices of each tide
  abbrev css : List (List ℕ)
  css = tabulate P.size (choices P g cs)

  abbrev pub IsTuple : Type 0
  IsTuple = (xs among tuples css) × T (all_sufficient P (length cs) xs)

  pub tuple_assignment : IsTuple → Assignment P g xs
  unfolding all_sufficient labels
  tuple_assignment k =
      record {
        long = w.long ∙ length_tabulate P.size (choices P g cs);
        low = λ t l. (chosen t l).low;
        high = λ t l. (chosen t l).high;
        in_radius = λ t l. (chosen t l).in_radius;
        enough = λ m a b. all_at _ (iota 1 (length cs)) k.1 (mem_range 1 (length cs) m a (omega arith));
      }
    where
      w : Tuple css xs
      w = tuples_mem css xs k.0

      chosen : (t : ℕ) → t < P.size → Choice P g cs t (get_or xs t 0)
      chosen t l =
          let is = get_d_tabulate P.size (choices P g cs) t [] l in
          choices_mem P g cs t (get_or xs t 0)
          (subst (λ ms. get_or xs t 0 among ms) is (w.chosen t (rw (length_tabulate P.size (choices P g cs)) l)))

  pub assignment_tuple : Assignment P g xs → IsTuple
  unfolding all_sufficient labels
  assignment_tuple A = (
    mem_tuples css xs (record { long = A.long ∙ sym (length_tabulate P.size (choices P g cs)); chosen = chosen }),
    all_of_lem _ (iota 1 (length cs)) (λ m h. let r = range_mem 1 (length cs) h in A.enough m r.0 (omega (arith, r.1))),
  )
    where
      chosen : (t : ℕ) → t < length css → get_or xs t 0 among get_or css t []
      chosen t h =
          let l : t < P.size = omega (arith, length_tabulate P.size (choices P g cs)) in
          subst (λ ms. get_or xs t 0 among ms) (sym (get_d_tabulate P.size (choices P g cs) t [] l))
          (mem_choices P g cs t (get_or xs t 0) (record { low = A.low t l; high = A.high t l; in_radius = A.in_radius t l }))

  pub assignments_are : (xs among assignments P g) ↔ Assignment P g xs
  unfolding assignments
  assignments_are = (
    λ m. tuple_assignment (filter_mem (all_sufficient P (length cs)) (tuples css) m),
    λ A. let k = assignment_tuple A in mem_filter (all_sufficient P (length cs)) (tuples css) k.0 k.1,
  )

  pub assignable_by : Assignment P g xs → T (assignable P g)
  unfolding assignable
  assignable_by A = nonempty (assignments P g) (assignments_are.1 A)

  -- the centre of a tide's block is a tide
  pub assigned_centre : Assignment P g xs → (t : ℕ) → t < P.size → centre_of cs (labels xs t) < P.size
  unfolding centre_of
  assigned_centre A t l = centre_below P g (getD_mem 0 cs (labels xs t - 1) (omega (arith, A.low t l, A.high t l)))

pub first_assignment : (P : Problem) (g : ℕ) → T (assignable P g) → Assignment P g (head_d (assignments P g) [])
unfolding assignable
first_assignment P g t = (assignments_are P g (head_d (assignments P g) [])).0 (first_mem [] (assignments P g) t)

-- ---- the radius is known by what is said of it

pub record IsRadius (P : Problem) (r : ℕ) : Type 0 where
  pub candidate : r among candidates P
  pub assigned : T (assignable P r)
  pub lowest : (g : ℕ) → g among candidates P → T (assignable P g) → r ≤ g

-- where some candidate has an assignment
pub radius_is : (P : Problem) (g : ℕ) → g among candidates P → T (assignable P g) → IsRadius P (radius P)
unfolding radius
radius_is P g m t =
    let ks = filter (assignable P) (candidates P) in
    let q = filter_mem (assignable P) (candidates P) (least_mem ks (mem_filter (assignable P) (candidates P) m t)) in
    record { candidate = q.0; assigned = q.1; lowest = λ h n u. least_le ks (mem_filter (assignable P) (candidates P) n u) }

pub is_radius : (P : Problem) (r : ℕ) → IsRadius P r → radius P ≡ r
is_radius P r I =
    let R = radius_is P r I.candidate I.assigned in
    omega (arith, R.lowest r I.candidate I.assigned, I.lowest (radius P) R.candidate R.assigned)
