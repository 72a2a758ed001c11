-- The record of specs/Shams.antt, by computation of two small studies. Assumes nothing.
use Prim.Native.Nat.{ℕ, ◌≤◌}
use native.Mathlib.Omega.{arith}
use mathlib.Core.Path.{◌≡◌, refl, ap, ◌∙◌}
use mathlib.Core.List.{List, [], ◌∷◌, flat_map, head_d}
use lib.Dec.{T}
use lib.ListN.{get_or, replicate}
use Rattle.lists.specs.Lists.{over, every, sum_below, count_below, greatest, tabulate}
use Rattle.study.specs.Problem.{centres_among, centres, centre_of, blocks_at, choices, block, labels, all_sufficient, assignments, assignable, candidates}
use Rattle.study.specs.Problem.{radius, blocking, greatest_diameter, Feasible, feasible}
use Rattle.study.specs.Study.{tide, distance, meets, sufficient, problem}
use Rattle.study.specs.declared.Figures.{Figures}
use Rattle.study.specs.Calls.{opened}
use Rattle.study.proofs.ProblemLaws.{feasible-T}
use Rattle.study.proofs.RenumberingLaws.{renumberings}
use Rattle.file_format.specs.Cases.{tide_on, line, plain}
use Rattle.guarantee.specs.Ledger.{remaining, empty_ledger, with_arrival}
use Rattle.guarantee.specs.Theorems.{Guaranteed}
use Rattle.guarantee.specs.Shams.{pairs, mixed, Shams}

-- ---- three pairs

abbrev honest : List ℕ
honest = 1 ∷ 1 ∷ 2 ∷ 2 ∷ 3 ∷ 3 ∷ []

honest_tested : T (feasible (problem pairs) (labels honest))
unfolding pairs plain line tide_on feasible block labels problem sufficient meets tide distance every count_below sum_below tabulate
honest_tested = tt

honest_feasible : Feasible (problem pairs) (labels honest)
honest_feasible = (feasible-T (problem pairs) (labels honest)).0 honest_tested

honest_width : greatest_diameter (problem pairs) (labels honest) ≡ 1
unfolding pairs plain line tide_on greatest_diameter labels problem tide distance greatest tabulate
honest_width = refl

-- demand 3 leaves no list of widest block above 2
too_wide : (F : Figures) (list : List ℕ) → Guaranteed pairs F list → greatest_diameter (problem pairs) (labels list) ≤ 2
too_wide F list G =
    omega (arith, G.widest, honest_width, (G.bounded pairs (renumberings.itself pairs) (labels honest) honest_feasible).1)

one_block_width : greatest_diameter (problem pairs) (labels (1 ∷ 1 ∷ 1 ∷ 1 ∷ 1 ∷ 1 ∷ [])) ≡ 21
unfolding pairs plain line tide_on greatest_diameter labels problem tide distance greatest tabulate
one_block_width = refl

rest_in_last_width : greatest_diameter (problem pairs) (labels (1 ∷ 1 ∷ 2 ∷ 2 ∷ 2 ∷ 2 ∷ [])) ≡ 11
unfolding pairs plain line tide_on greatest_diameter labels problem tide distance greatest tabulate
rest_in_last_width = refl

radius_of_pairs : radius (problem pairs) ≡ 1
unfolding pairs plain line tide_on centres_among centres centre_of blocks_at choices block labels all_sufficient assignments assignable candidates radius
    tide distance meets sufficient problem every sum_below count_below tabulate flat_map head_d
radius_of_pairs = refl

blocking_of_pairs : blocking (problem pairs) ≡ honest
unfolding pairs plain line tide_on centres_among centres centre_of blocks_at choices block labels all_sufficient assignments assignable candidates radius blocking
    tide distance meets sufficient problem every sum_below count_below tabulate flat_map head_d
blocking_of_pairs = refl

blocking_of_mixed : blocking (problem mixed) ≡ 1 ∷ 2 ∷ 3 ∷ 1 ∷ 2 ∷ 3 ∷ []
unfolding mixed plain line tide_on centres_among centres centre_of blocks_at choices block labels all_sufficient assignments assignable candidates radius blocking
    tide distance meets sufficient problem every sum_below count_below tabulate flat_map head_d
blocking_of_mixed = refl

-- a list that begins with a blocking begins with its numbers
begins : {list bs cs : List ℕ} (list₀ : List ℕ) → list ≡ over bs list₀ → bs ≡ cs → list ≡ over cs list₀
begins list₀ e q = e ∙ ap (λ b. over b list₀) q

pub shams : Shams
unfolding opened remaining with_arrival empty_ledger
shams =
    record {
      one_block = λ F G. omega (arith, too_wide F (1 ∷ 1 ∷ 1 ∷ 1 ∷ 1 ∷ 1 ∷ []) G, one_block_width);
      rest_in_last = λ F G. omega (arith, too_wide F (1 ∷ 1 ∷ 2 ∷ 2 ∷ 2 ∷ 2 ∷ []) G, rest_in_last_width);
      zero_radius = λ F list₀ list records₀ records A e. omega (arith, A.radius, radius_of_pairs);
      only_acknowledged = λ setting row A. omega (arith, A.as_many);
      same_list = λ F G list₀ list records₀ records records' A B.
          let a : get_or list 1 0 ≡ 1 = ap (λ (l : List ℕ). get_or l 1 0) (begins list₀ A.list_is blocking_of_pairs) in
          let b : get_or list 1 0 ≡ 2 = ap (λ (l : List ℕ). get_or l 1 0) (begins list₀ B.list_is blocking_of_mixed) in
          omega (arith, a, b);
      untouched = λ F records₀ records A.
          let a : ◌≡◌ {A = ℕ} 0 1 = ap (λ (l : List ℕ). get_or l 0 0) (begins (replicate 6 0) A.list_is blocking_of_pairs) in
          omega (arith, a);
      not_too_few = (labels honest, honest_feasible);
    }
