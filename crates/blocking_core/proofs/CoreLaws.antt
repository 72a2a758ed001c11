-- The radius, centres and list that the search ends with are those of the problem. Assumes nothing.
use Prim.Native.Nat.{ℕ, suc, ◌+◌, ◌-◌, ◌≤◌, ◌<◌}
use native.Mathlib.Omega.{arith}
use native.Mathlib.Numerals.{add-one}
use mathlib.Core.Path.{◌≡◌, sym, ap, ◌∙◌, subst}
use mathlib.Core.Logic.{⊎_elim}
use mathlib.Core.List.{List, ◌++◌}
use lib.ListN.{length, get_or, take, drop}
use lib.Seq.{get_or-take}
use Rattle.lists.specs.Lists.{tabulate, overwrite, count_below}
use Rattle.lists.proofs.Counts.{count_same}
use Rattle.lists.proofs.Tables.{length_tabulate, get_d_tabulate, tabulate_is, getD_overwrite, length_overwrite}
use Rattle.study.specs.Limits.{max_tides}
use Rattle.study.specs.Problem.{Problem, centres_among, centres, centre_of, block, labels, radius, blocking}
use Rattle.study.specs.Theorems.{Assignment, Prefers, FirstAssignment}
use Rattle.study.proofs.ProblemLaws.{blocks_same, diameter_same, greatest_diameter_same}
use Rattle.study.proofs.Dictionary.{blocking_found}
use Rattle.promise.specs.Promise.{Test}
use Rattle.radius_theory.specs.Arrays.{within, array_problem, ValidArrays}
use Rattle.radius_theory.proofs.RadiiLaws.{lowest_radius}
use Rattle.radius_search.specs.Front.{Front}
use Rattle.radius_search.proofs.FrontLaws.{front_at, front_few, front_below, centres_few}
use Rattle.radius_search.proofs.AssigningLaws.{numbered, numbered_at, centre_dist, allowed_by, assigns}
use Rattle.radius_search.specs.Ascents.{Least}
use Rattle.first_assignment.specs.First.{rank, First, Agree}
use Rattle.blocking_core.specs.Measured.{Measured}
use Rattle.blocking_core.proofs.MeasuredLaws.{across_diameter, widest_diameter}
use Rattle.blocking_core.specs.Core.{Blocks, Assigns}

-- the first assignment at the least radius
module _ {d : List ℕ} {n : ℕ} {E : Test} (Q : ValidArrays d n E) {g count₁ : ℕ} {cs lent allowed found list : List ℕ}
    (few : n ≤ max_tides) (L : Least d n E g count₁ cs lent allowed found) (F : First (rank d cs) n count₁ E allowed list) where
  abbrev P : Problem
  P = array_problem d n E

  abbrev xs : List ℕ
  xs = numbered n (labels list)

  listed : Front cs count₁ (centres P g)
  unfolding centres array_problem
  listed = L.centres.front

  assignment : Assignment P g xs
  assignment = assigns Q g count₁ cs listed allowed L.table.here (labels list) F.assigned

  pub radius_is : radius P ≡ g
  radius_is = lowest_radius P g L.lowest xs assignment

  -- another assignment that agrees before t
  agrees : (t : ℕ) → t < n → (ys : List ℕ) → take t ys ≡ take t xs → Agree t (labels list) (λ x. labels ys x - 1)
  unfolding labels
  agrees t l ys e x k =
      let a : get_or ys x 0 ≡ get_or xs x 0 = sym (get_or-take t ys x 0 k) ∙ ap (λ z. get_or z x 0) e ∙ get_or-take t xs x 0 k in
      omega (arith, numbered_at n (labels list) x (omega arith))

  -- a block that t prefers has the lower rank
  preferred_ranks : (t : ℕ) → t < n → (ys : List ℕ) → Assignment P g ys → Prefers P (centres P g) t (labels ys t) (labels xs t)
      → rank d cs t (labels ys t - 1) < rank d cs t (labels list t)
  unfolding array_problem Prefers rank centre_of
  preferred_ranks t l ys A q =
      let other_below : labels ys t - 1 < count₁ = omega (arith, A.low t l, A.high t l, listed.long) in
      let other_far = centre_dist Q g count₁ cs listed (labels ys t - 1) t other_below l in
      let own : labels xs t - 1 ≡ labels list t = omega (arith, numbered_at n (labels list) t l) in
      let own_below = F.assigned.below t l in
      let own_far = ap (λ z. P.dist (get_or (centres P g) z 0) t) own ∙ centre_dist Q g count₁ cs listed (labels list t) t own_below l in
      let few_blocks = front_few few L.centres in
      ⊎_elim (λ nearer. omega arith) (λ as-near. omega (arith, as-near.0, as-near.1, A.low t l)) q

  first : FirstAssignment P g xs
  unfolding array_problem
  first =
      record {
        assignment = assignment;
        foremost = λ t l ys A e q.
            let G = allowed_by Q g count₁ cs listed allowed L.table.here ys A in
            omega (arith, preferred_ranks t l ys A q, F.least (λ x. labels ys x - 1) G t l (agrees t l ys e));
      }

  pub blocking_is : blocking P ≡ xs
  blocking_is = blocking_found P xs (subst (λ z. FirstAssignment P z xs) (sym radius_is) first)

-- ---- the answer

-- from the search, the first assignment there, and its numbering
pub assigned_core : {d : List ℕ} {n : ℕ} {E : Test} (Q : ValidArrays d n E) {g count₁ : ℕ} {cs lent allowed found first old list : List ℕ}
    → n ≤ max_tides → Least d n E g count₁ cs lent allowed found → First (rank d cs) n count₁ E allowed first → n ≤ length old
    → list ≡ overwrite n (λ t. labels first t + 1) old → Assigns d n E g count₁ cs old list
unfolding numbered overwrite labels
assigned_core {d} {n} {E} Q {g} {count₁} {cs} {first = first} {old = old} {list = list} few L F long e =
    record {
      radius_of = sym (radius_is Q few L F);
      centres_of = L.centres;
      list_of = whole;
      same_length = ap length e ∙ length_overwrite (λ t. labels first t + 1) old n long;
      low = λ t l. omega (arith, at t l);
      high = λ t l. omega (arith, at t l, F.assigned.below t l, front_few few L.centres);
      same = λ t l. at t l ∙ sym (ap (λ z. labels z t) (blocking_is Q few L F) ∙ numbered_at n (labels first) t l ∙ sym (add-one (labels first t)));
    }
  where
    at : (t : ℕ) → t < n → labels list t ≡ labels first t + 1
    at t l = ap (λ z. get_or z t 0) e ∙ getD_overwrite (λ t. labels first t + 1) old n t 0 l

    front : tabulate n (λ t. labels first t + 1) ≡ blocking (array_problem d n E)
    front =
        tabulate_is n (λ t. labels first t + 1) 0 (numbered n (labels first)) (length_tabulate n (λ t. suc (labels first t)))
        (λ t l. add-one (labels first t) ∙ sym (get_d_tabulate n (λ t. suc (labels first t)) t 0 l))
        ∙ sym (blocking_is Q few L F)

    whole : list ≡ blocking (array_problem d n E) ++ drop n old
    whole = e ∙ ap (λ a. a ++ drop n old) front

-- from these and their measures
pub core_blocks : {d : List ℕ} {n : ℕ} {E : Test} {g count₁ widest : ℕ} {cs old list sizes diameters : List ℕ} → n ≤ max_tides
    → Assigns d n E g count₁ cs old list → Measured d n (labels list) n sizes diameters widest → Blocks d n E count₁ g widest cs sizes diameters
unfolding centres array_problem
core_blocks {d} {n} {E} {g} {count₁} {cs = cs} {list = list} few A R =
    record {
      few = omega (arith, F.long, centres_few (within d n) g n);
      centres_long = F.size;
      centre_below = front_below A.centres_of;
      count_is = sym F.long ∙ ap (λ z. length (centres_among (within d n) z n)) A.radius_of;
      radius_of = A.radius_of;
      widest_of = R.greatest_is ∙ widest_diameter d n E (labels list) ∙ greatest_diameter_same P (labels list) (labels (blocking P)) A.same;
      centre_of_lem = λ i l. front_at F i l ∙ ap (λ z. get_or (centres_among (within d n) z n) i 0) A.radius_of;
      size_of = λ i l. R.size i (omega (arith, F.long, centres_few (within d n) g n)) ∙ block_same i;
      diameter_of = λ i l.
          R.across i (omega (arith, F.long, centres_few (within d n) g n)) ∙ across_diameter d n E (labels list) (suc i)
          ∙ diameter_same P (labels list) (labels (blocking P)) (suc i) A.same;
    }
  where
    P : Problem
    P = array_problem d n E

    F : Front cs count₁ (centres_among (within d n) g n)
    F = A.centres_of.front

    block_same : (i : ℕ) → count_below n (block (labels list) (suc i)) ≡ count_below n (block (labels (blocking P)) (suc i))
    block_same i =
        count_same n (block (labels list) (suc i)) (block (labels (blocking P)) (suc i))
        (λ t l. blocks_same (labels list) (labels (blocking P)) (suc i) t (A.same t l))
