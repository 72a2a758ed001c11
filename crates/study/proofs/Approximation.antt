-- The blocking against every feasible partition, of greatest diameter W: the radius is at most W, and the greatest diameter at most 2·W.
-- The centres at W lie in different blocks of the partition; so each of its blocks that has a centre goes to that centre's block, and
-- every other tide to any centre within W. That is an assignment at W. Assumes nothing.
use Prim.Native.Nat.{ℕ, zero, suc, ◌*◌, ◌≤◌, ◌<◌}
use native.Mathlib.Omega.{arith}
use mathlib.Core.Path.{◌≡◌, sym, ap, ap₂, ◌∙◌, subst}
use mathlib.Core.Logic.{⊎_elim, ◌↔◌}
use mathlib.Core.Bool.{Bool, true, cond}
use mathlib.Core.List.{List}
use lib.Dec.{T, leb, ltb, eqb, leb→le, le→leb, ltb→lt, lt→ltb, eqb→eq}
use lib.ListN.{length, get_or}
use Rattle.lists.specs.Lists.{◌among◌, tabulate}
use Rattle.lists.proofs.Tests.{split, test, cond_yes, cond_no, eq→eqb}
use Rattle.lists.proofs.Members.{getD_mem, place, find, find_le, find_pass}
use Rattle.lists.proofs.Tables.{length_tabulate, get_d_tabulate}
use Rattle.study.specs.Problem.{Problem, centres, centre_of, block, labels, assignable, candidates, radius, blocking, greatest_diameter, Feasible}
use Rattle.study.specs.Theorems.{Symmetric, Lawful, Reordered, Assignment}
use Rattle.study.proofs.ProblemLaws.{centre_below, cover, apart, greatest_diameter_le, greatest_diameter_ge, greatest_diameter_candidate, assignable_by}
use Rattle.study.proofs.ProblemLaws.{assigned_centre, first_assignment, IsRadius, radius_is}

-- ---- an assignment at the greatest diameter of a feasible partition

module _ (P : Problem) (L : Lawful P) (D : ℕ → ℕ) (F : Feasible P D) where
  W : ℕ
  W = greatest_diameter P D

  cs : List ℕ
  cs = centres P W

  cs_below : (i : ℕ) → i < length cs → get_or cs i 0 < P.size
  unfolding cs
  cs_below i l = centre_below P W (getD_mem 0 (centres P W) i l)

  same : ℕ → ℕ → Bool
  same u c = eqb (D c) (D u)

  in_radius : ℕ → ℕ → Bool
  in_radius u c = leb (P.dist c u) W

  -- the place of the centre in u's block of D, where that block has one; else of the first centre at most W away
  send : ℕ → ℕ
  send u = cond (ltb (find (same u) cs) (length cs)) (find (same u) cs) (find (in_radius u) cs)

  -- two centres in one block of D are one
  cs_part : (i j : ℕ) → i < length cs → j < length cs → j ≤ i → D (get_or cs j 0) ≡ D (get_or cs i 0) → j ≡ i
  unfolding W cs
  cs_part i j k l h e =
      ⊎_elim
      (λ s. absurd (omega (arith, apart P W j i s k, greatest_diameter_ge P D L.symmetric (get_or cs j 0) (get_or cs i 0) (cs_below j l) (cs_below i k) e)))
      (λ s. omega arith) (split j i)

  record Sent (u i : ℕ) : Type 0 where
    inside : i < length cs
    close : P.dist (get_or cs i 0) u ≤ W

  covered : (u : ℕ) → u < P.size → Sent u (find (in_radius u) cs)
  unfolding in_radius cs
  covered u l =
      let r = cover P W L u l in
      let q = place 0 cs r.1 in
      let k : find (in_radius u) cs ≤ q.0 = find_le (in_radius u) cs q.0 q.1 (le→leb (P.dist (get_or cs q.0 0) u) W (rw q.2 r.2)) in
      let m : find (in_radius u) cs < length cs = omega (arith, k, q.1) in
      record { inside = m; close = leb→le (P.dist (get_or cs (find (in_radius u) cs) 0) u) W (find_pass (in_radius u) cs m) }

  send_good : (u : ℕ) → u < P.size → Sent u (send u)
  unfolding send same in_radius W
  send_good u l =
      ⊎_elim
      (λ s. let k : find (same u) cs < length cs = ltb→lt (find (same u) cs) (length cs) s in
      rw (cond_yes (ltb (find (same u) cs) (length cs)) (find (same u) cs) (find (in_radius u) cs) s)
      (record {
        inside = k;
        close = greatest_diameter_ge P D L.symmetric (get_or cs (find (same u) cs) 0) u (cs_below (find (same u) cs) k) l
            (eqb→eq (D (get_or cs (find (same u) cs) 0)) (D u) (find_pass (same u) cs k));
      }))
      (λ s. rw (cond_no (ltb (find (same u) cs) (length cs)) (find (same u) cs) (find (in_radius u) cs) s) (covered u l))
      (test (ltb (find (same u) cs) (length cs)))

  -- the block of D that has a centre goes to the centre's block
  send_part : (i u : ℕ) → i < length cs → D u ≡ D (get_or cs i 0) → send u ≡ i
  unfolding send same
  send_part i u l e =
      let h : find (same u) cs ≤ i = find_le (same u) cs i l (eq→eqb (D (get_or cs i 0)) (D u) (sym e)) in
      let k : find (same u) cs < length cs = omega arith in
      cond_yes (ltb (find (same u) cs) (length cs)) (find (same u) cs) (find (in_radius u) cs) (lt→ltb (find (same u) cs) (length cs) k)
      ∙ cs_part i (find (same u) cs) l k h (eqb→eq (D (get_or cs (find (same u) cs) 0)) (D u) (find_pass (same u) cs k) ∙ e)

  sent : List ℕ
  sent = tabulate P.size (λ u. suc (send u))

  sent_at : (u : ℕ) → u < P.size → labels sent u ≡ suc (send u)
  unfolding sent labels
  sent_at u l = get_d_tabulate P.size (λ v. suc (send v)) u 0 l

  sent_near : (u : ℕ) → u < P.size → P.dist (centre_of cs (labels sent u)) u ≤ W
  unfolding centre_of
  sent_near u l = rw (sent_at u l) (subst (λ i. P.dist (get_or cs i 0) u ≤ W) (omega arith) (send_good u l).close)

  sent_enough : (m : ℕ) → 1 ≤ m → m ≤ length cs → T (P.enough (block (labels sent) m))
  unfolding block
  sent_enough zero a b = absurd (omega arith)
  sent_enough (suc i) a b =
      L.upward (block D (D (get_or cs i 0))) (block (labels sent) (suc i))
      (λ u k t. eq→eqb (labels sent u) (suc i) (sent_at u k ∙ ap suc (send_part i u b (eqb→eq (D u) (D (get_or cs i 0)) t))))
      (F (get_or cs i 0) (cs_below i b))

  sent_assigns : Assignment P W sent
  unfolding sent cs
  sent_assigns =
      record {
        long = length_tabulate P.size (λ u. suc (send u));
        low = λ u l. omega (arith, sent_at u l);
        high = λ u l. omega (arith, sent_at u l, (send_good u l).inside);
        in_radius = sent_near;
        enough = sent_enough;
      }

  pub feasible_assignable : T (assignable P (greatest_diameter P D))
  unfolding W
  feasible_assignable = assignable_by P W sent sent_assigns

  pub feasible_radius : IsRadius P (radius P)
  feasible_radius = radius_is P (greatest_diameter P D) (greatest_diameter_candidate P D) feasible_assignable

  pub radius_le : radius P ≤ greatest_diameter P D
  radius_le = feasible_radius.lowest (greatest_diameter P D) (greatest_diameter_candidate P D) feasible_assignable

  pub blocking_assigns : Assignment P (radius P) (blocking P)
  unfolding blocking
  blocking_assigns = first_assignment P (radius P) feasible_radius.assigned

-- ---- two tides of one block are each within g of its centre
pub assignment_diameter : (P : Problem) → Lawful P → (g : ℕ) (xs : List ℕ) → Assignment P g xs → greatest_diameter P (labels xs) ≤ 2 * g
assignment_diameter P L g xs A = greatest_diameter_le P (labels xs) (2 * g) pair
  where
    c : ℕ → ℕ
    c t = centre_of (centres P g) (labels xs t)

    pair : (u t : ℕ) → u < t → t < P.size → labels xs u ≡ labels xs t → P.dist u t ≤ 2 * g
    pair u t h l e =
        let k : u < P.size = omega arith in
        let a : P.dist u (c t) ≤ g = rw (L.symmetric.both_ways u (c t)) (subst (λ m. P.dist (centre_of (centres P g) m) u ≤ g) e (A.in_radius u k)) in
        let b : P.dist (c t) t ≤ g = A.in_radius t l in
        omega (arith, L.triangle u (c t) t k (assigned_centre P g xs A t l) l)

-- ---- the bounds, against the same tides in any order

twice : (P : Problem) → Lawful P → (D : ℕ → ℕ) → Feasible P D
    → (radius P ≤ greatest_diameter P D) × (greatest_diameter P (labels (blocking P)) ≤ 2 * greatest_diameter P D)
twice P L D F =
    let r = radius_le P L D F in
    let w = assignment_diameter P L (radius P) (blocking P) (blocking_assigns P L D F) in
    (r, omega arith)

pub two_approximation : (P Q : Problem) → Lawful P → Symmetric Q → Reordered P Q → (D : ℕ → ℕ) → Feasible Q D
    → (radius P ≤ greatest_diameter Q D) × (greatest_diameter P (labels (blocking P)) ≤ 2 * greatest_diameter Q D)
unfolding block
two_approximation P Q L Y R D F =
    let h = twice P L (λ s. D (R.back s)) (λ s l. R.enough (block D (D (R.back s))) (F (R.back s) (R.back_inside s l))) in
    let w : greatest_diameter P (λ s. D (R.back s)) ≤ greatest_diameter Q D = greatest_diameter_le P (λ s. D (R.back s)) (greatest_diameter Q D) pair in
    (omega arith, omega arith)
  where
    pair : (u t : ℕ) → u < t → t < P.size → D (R.back u) ≡ D (R.back t) → P.dist u t ≤ greatest_diameter Q D
    pair u t h l e =
        let k : u < P.size = omega arith in
        let q : Q.dist (R.back u) (R.back t) ≡ P.dist u t =
        R.distances (R.back u) (R.back t) (R.back_inside u k) (R.back_inside t l) ∙ ap₂ P.dist (R.to_back u k) (R.to_back t l) in
        let w = greatest_diameter_ge Q D Y (R.back u) (R.back t) (R.back_inside u k) (R.back_inside t l) e in
        omega arith

-- ---- when there is a blocking at all

pub assignment_feasible : (P : Problem) (g : ℕ) (xs : List ℕ) → Assignment P g xs → Feasible P (labels xs)
assignment_feasible P g xs A t l = A.enough (labels xs t) (A.low t l) (A.high t l)

feasible_all : (P : Problem) → Lawful P → 0 < P.size → (D : ℕ → ℕ) → Feasible P D → T (P.enough (λ t. true))
feasible_all P L s D F = L.upward (block D (D 0)) (λ t. true) (λ t l h. tt) (F 0 s)

-- all tides in one block
pub one_block : (P : Problem) → Lawful P → T (P.enough (λ t. true)) → Feasible P (λ t. 1)
unfolding block
one_block P L h t l = L.upward (λ t. true) (block (λ t. 1) 1) (λ u k s. tt) h

pub feasible_exactly : (P : Problem) → Lawful P → 0 < P.size → ((D : ℕ → ℕ) × Feasible P D) ↔ T (P.enough (λ t. true))
feasible_exactly P L s = (λ d. feasible_all P L s d.0 d.1, λ h. (λ t. 1, one_block P L h))

pub assignable_exactly : (P : Problem) → Lawful P → 0 < P.size → ((g : ℕ) × (g among candidates P) × T (assignable P g)) ↔ T (P.enough (λ t. true))
assignable_exactly P L s = (
  λ f. feasible_all P L s _ (assignment_feasible P f.0 _ (first_assignment P f.0 f.2)),
  λ h. (greatest_diameter P (λ t. 1), greatest_diameter_candidate P (λ t. 1), feasible_assignable P L (λ t. 1) (one_block P L h)),
)
