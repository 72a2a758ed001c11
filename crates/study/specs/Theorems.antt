-- What is proved of the definitions; there are no proofs here. `for_problem`, `for_nearest`, `for_study`, `for_calls`, `for_minima` and
-- `for_duplicates` of Proofs.antt prove the records `For..`. Assumes nothing.
use Rattle.std.specs.Prelude.{ℕ, suc, ◌+◌, ◌*◌, ◌≤◌, ◌<◌, ◌≡◌, ◌⊎◌, ◌↔◌, Bool, true, false, not, List, T, eqb, length, get_or, take}
use Rattle.lists.specs.Lists.{◌among◌, count_below, greatest}
use Rattle.study.specs.Limits.{max_settings}
use Rattle.study.specs.declared.Minima.{Minima}
use Rattle.study.specs.Problem.{Problem, centres, centre_of, nearest_distance, nearest_block, block, labels, assignments, assignable}
use Rattle.study.specs.Problem.{candidates, radius, blocking, diameter, greatest_diameter, Feasible, feasible}
use Rattle.study.specs.Study.{Study, Contents, size, tide, problem, valid_minima, Valid, ValidCounts, Renumbered}
use Rattle.study.specs.Refusals.{number, accepted, refused, first_of}
use Rattle.study.specs.Calls.{open_reasons, opening, sum_of_parts, understood, minima_reasons, setting_minima, holds_duplicate, enter_reasons, entered}
use Rattle.study.specs.Calls.{entering, withdraw_reasons, withdrawing}
use Rattle.study.specs.Minima.{Acceptable}

-- ---- what the theorems ask of a problem

-- distances the same both ways, 0 from a tide to itself
pub record Symmetric (P : Problem) : Type 0 where
  pub both_ways : (t u : ℕ) → P.dist t u ≡ P.dist u t
  pub itself : (t : ℕ) → P.dist t t ≡ 0

-- symmetric distances, the triangle rule, and more tides never make a sufficient block insufficient
pub record Lawful (P : Problem) : Type 0 where
  pub symmetric : Symmetric P
  pub triangle : (t u v : ℕ) → t < P.size → u < P.size → v < P.size → P.dist t v ≤ P.dist t u + P.dist u v
  pub upward : (p q : ℕ → Bool) → ((t : ℕ) → t < P.size → T (p t) → T (q t)) → T (P.enough p) → T (P.enough q)

-- Q has the tides of P in another order: tide t of Q is tide `to t` of P, and what is sufficient in Q is so in P
pub record Reordered (P Q : Problem) : Type 0 where
  pub to : ℕ → ℕ
  pub back : ℕ → ℕ
  pub back_inside : (s : ℕ) → s < P.size → back s < Q.size
  pub to_back : (s : ℕ) → s < P.size → to (back s) ≡ s
  pub distances : (t u : ℕ) → t < Q.size → u < Q.size → Q.dist t u ≡ P.dist (to t) (to u)
  pub enough : (p : ℕ → Bool) → T (Q.enough p) → T (P.enough (λ s. p (back s)))

-- ---- what they say

-- document 01, a filling at g: each tide has a block whose centre is at most g away, and each block is sufficient
pub record Assignment (P : Problem) (g : ℕ) (xs : List ℕ) : Type 0 where
  pub long : length xs ≡ P.size
  pub low : (t : ℕ) → t < P.size → 1 ≤ labels xs t
  pub high : (t : ℕ) → t < P.size → labels xs t ≤ length (centres P g)
  pub in_radius : (t : ℕ) → t < P.size → P.dist (centre_of (centres P g) (labels xs t)) t ≤ g
  pub enough : (m : ℕ) → 1 ≤ m → m ≤ length (centres P g) → T (P.enough (block (labels xs) m))

-- document 02, 2.6: where the blocks belong to the centres cs, tide t prefers block m to block k: its centre is nearer, or equally near and
-- m is the lower number
unfoldable pub Prefers : Problem → List ℕ → ℕ → ℕ → ℕ → Type 0
Prefers P cs t m k =
    let x = P.dist (centre_of cs m) t in
    let y = P.dist (centre_of cs k) t in
    (x < y) ⊎ ((x ≡ y) × (m < k))

-- xs comes before ys in dictionary order: the first tide where they differ prefers its block in xs
pub record Precedes (P : Problem) (g : ℕ) (xs ys : List ℕ) : Type 0 where
  pub tide : ℕ
  pub inside : tide < P.size
  pub same : take tide xs ≡ take tide ys
  pub preferred : Prefers P (centres P g) tide (labels xs tide) (labels ys tide)

-- an assignment at g, and no assignment that agrees with it before a tide gives that tide a block that it prefers
pub record FirstAssignment (P : Problem) (g : ℕ) (xs : List ℕ) : Type 0 where
  pub assignment : Assignment P g xs
  pub foremost : (t : ℕ) → t < P.size → (ys : List ℕ) → Assignment P g ys → take t ys ≡ take t xs
      → Prefers P (centres P g) t (labels ys t) (labels xs t) → ⊥

-- the blocking is the one that document 01 singles out, with the order of document 02, 2.6
pub record Canonical (P : Problem) : Type 0 where
  pub assignment : Assignment P (radius P) (blocking P)
  pub candidate : radius P among candidates P
  pub lowest : (g : ℕ) → g among candidates P → (xs : List ℕ) → Assignment P g xs → radius P ≤ g
  pub first : (xs : List ℕ) → Assignment P (radius P) xs → (blocking P ≡ xs) ⊎ Precedes P (radius P) (blocking P) xs
  -- its greatest diameter is that of its blocks
  pub widest : greatest_diameter P (labels (blocking P)) ≡ greatest (length (centres P (radius P))) (λ i. diameter P (labels (blocking P)) (suc i))

-- for every lawful problem
pub record ForProblem (P : Problem) : Type 0 where
  pub cover : (g t : ℕ) → t < P.size → (c : ℕ) × (c among centres P g) × (P.dist c t ≤ g)
  pub apart : (g i j : ℕ) → i < j → j < length (centres P g) → g < P.dist (get_or (centres P g) i 0) (get_or (centres P g) j 0)
  pub assignments_are : (g : ℕ) (xs : List ℕ) → (xs among assignments P g) ↔ Assignment P g xs
  -- against every feasible partition of the same tides in any order
  pub bounded : (Q : Problem) → Symmetric Q → Reordered P Q → (D : ℕ → ℕ) → Feasible Q D
      → (radius P ≤ greatest_diameter Q D) × (greatest_diameter P (labels (blocking P)) ≤ 2 * greatest_diameter Q D)
  -- some partition is feasible ↔ all tides together are sufficient ↔ some candidate has an assignment
  pub feasible_exactly : 0 < P.size → ((D : ℕ → ℕ) × Feasible P D) ↔ T (P.enough (λ t. true))
  pub assignable_exactly : 0 < P.size → ((g : ℕ) × (g among candidates P) × T (assignable P g)) ↔ T (P.enough (λ t. true))
  pub canonical : T (P.enough (λ t. true)) → Canonical P
  -- how a search that only tells whether some assignment continues a given front finds the blocking
  pub found : (xs : List ℕ) → FirstAssignment P (radius P) xs → blocking P ≡ xs
  pub feasible_test : (D : ℕ → ℕ) → T (feasible P D) ↔ Feasible P D

-- block m is nearest to tide t where the blocks belong to the centres cs: no centre is nearer, and an equally near one has no lower number
pub record IsNearest (dist : ℕ → ℕ → ℕ) (cs : List ℕ) (t m : ℕ) : Type 0 where
  pub low : 1 ≤ m
  pub high : m ≤ length cs
  pub no_nearer : (k : ℕ) → 1 ≤ k → k ≤ length cs → dist (centre_of cs m) t ≤ dist (centre_of cs k) t
  pub no_lower : (k : ℕ) → 1 ≤ k → k ≤ length cs → dist (centre_of cs k) t ≡ dist (centre_of cs m) t → m ≤ k

-- document 02, 2.4: the block and the distance that Centres at g tells of tide t, for every lawful problem
pub record ForNearest (P : Problem) (g t : ℕ) : Type 0 where
  pub nearest : IsNearest P.dist (centres P g) t (nearest_block P.dist (centres P g) t)
  pub only : (m : ℕ) → IsNearest P.dist (centres P g) t m → m ≡ nearest_block P.dist (centres P g) t
  pub distance : nearest_distance P.dist (centres P g) t ≡ P.dist (centre_of (centres P g) (nearest_block P.dist (centres P g) t)) t
  pub in_radius : nearest_distance P.dist (centres P g) t ≤ g

-- at least b0 tides, and at least b of each setting
pub record Ample (S : Study) : Type 0 where
  pub whole : S.minima.b0 ≤ size S
  pub each : (j : ℕ) → j < max_settings → get_or S.minima.b j 0 ≤ count_below (size S) (λ t. eqb (tide S t).setting (suc j))

-- for every valid study
pub record ForStudy (S : Study) : Type 0 where
  pub lawful : Lawful (problem S)
  -- against every feasible partition of the same tides, numbered in any order
  pub bounded : (R : Study) → Renumbered S R → (D : ℕ → ℕ) → Feasible (problem R) D
      → (radius (problem S) ≤ greatest_diameter (problem R) D)
      × (greatest_diameter (problem S) (labels (blocking (problem S))) ≤ 2 * greatest_diameter (problem R) D)
  -- refusal 25 is exact
  pub ample_exactly : 0 < size S → ((D : ℕ → ℕ) × Feasible (problem S) D) ↔ Ample S

-- a valid study, and counts of withdrawals that a dataset can hold
pub record ValidContents (H : Contents) : Type 0 where
  pub study : Valid H.study
  pub counts : ValidCounts H.withdrawals

-- an accepted call leaves valid contents
pub record ForCalls : Type 0 where
  pub on_open : (k : ℕ) → first_of (open_reasons k) ≡ accepted → ValidContents (opening k)
  pub on_minima : (M : Minima) (H : Contents) → ValidContents H → first_of (minima_reasons H.study M) ≡ accepted → ValidContents (setting_minima M H)
  pub on_enter : (setting : ℕ) (row : List ℕ) (H : Contents) → ValidContents H → first_of (enter_reasons H.study setting row) ≡ accepted
      → ValidContents (entering setting row H)
  pub on_withdraw : (u t : ℕ) (H : Contents) → ValidContents H → first_of (withdraw_reasons H u t) ≡ accepted → ValidContents (withdrawing u t H)

-- what Minima accepts (document 02, 2.2), for every study and record; `on_minima` above says that what is accepted makes a valid dataset
pub record ForMinima (S : Study) (M : Minima) : Type 0 where
  -- reason 3 is exact
  pub exactly : (first_of (minima_reasons S M) ≡ accepted) ↔ Acceptable S.k M
  -- a record that was accepted before is understood as it is, so it gives what it gave
  pub as_before : T (valid_minima S.k M) → (first_of (minima_reasons S M) ≡ accepted) × (understood M ≡ M)
  -- newly accepted are those with b0 below the sum, and no others
  pub newly : ((first_of (minima_reasons S M) ≡ accepted) × T (not (valid_minima S.k M))) ↔ (Acceptable S.k M × (M.b0 < sum_of_parts M))

-- a tide of this setting, at the row's distances, is a duplicate (document 02, 2.8: a twin) of a tide held: at 0 from it, and of its setting
pub record DuplicateOf (S : Study) (setting : ℕ) (row : List ℕ) : Type 0 where
  pub held : ℕ
  pub inside : held < size S
  pub same_setting : (tide S held).setting ≡ setting
  pub at_zero : get_or row held 0 ≡ 0

-- what Enter does about duplicates, for every study and tide
pub record ForDuplicates (S : Study) (setting : ℕ) (row : List ℕ) : Type 0 where
  -- 15 is exact, whatever is held already: none of the reasons before it holds (22, 4, 5, 6, 7), and the tide is a duplicate of one held
  pub exactly : (first_of (enter_reasons S setting row) ≡ refused (number 15))
      ↔ ((first_of (take 5 (enter_reasons S setting row)) ≡ accepted) × DuplicateOf S setting row)
  pub accepted_none : first_of (enter_reasons S setting row) ≡ accepted → DuplicateOf S setting row → ⊥
  -- where none is held and Enter is accepted, none is held after
  pub none_after : holds_duplicate S ≡ false → first_of (enter_reasons S setting row) ≡ accepted → holds_duplicate (entered setting row S) ≡ false
  -- with a tide that is refused 15 one would be held, and a valid study would still be one
  pub one_after : first_of (enter_reasons S setting row) ≡ refused (number 15) → holds_duplicate (entered setting row S) ≡ true
  pub still_valid : Valid S → first_of (enter_reasons S setting row) ≡ refused (number 15) → Valid (entered setting row S)
