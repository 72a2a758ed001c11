-- "The study and its rivals" of document 01: whoever divides the same tides may put them in another order. The study with its tides in a
-- given order, and that there is one for every order; there are no proofs here. `renumberings` of RenumberingLaws.antt proves the record
-- at the end. Assumes nothing.
use Rattle.std.specs.Prelude.{ℕ, ◌*◌, ◌≤◌, ◌<◌, ◌≡◌}
use Rattle.lists.specs.Lists.{tabulate}
use Rattle.study.specs.Problem.{labels, radius, blocking, greatest_diameter, Feasible}
use Rattle.study.specs.Study.{Tide, Study, size, tide, distance, problem, Valid, Renumbered}

-- an order of n tides: a bijection of the numbers below n, and its inverse
pub record Permutation (n : ℕ) : Type 0 where
  pub to : ℕ → ℕ
  pub back : ℕ → ℕ
  pub to_inside : (t : ℕ) → t < n → to t < n
  pub back_inside : (s : ℕ) → s < n → back s < n
  pub to_back : (s : ℕ) → s < n → to (back s) ≡ s
  pub back_to : (t : ℕ) → t < n → back (to t) ≡ t

-- tide `to t` of S as tide t: its setting, and its distances to the tides that now stand before it
unfoldable pub renumbered_tide : (ℕ → ℕ) → Study → ℕ → Tide
renumbered_tide to S t = record { setting = (tide S (to t)).setting; row = tabulate t (λ u. distance S (to u) (to t)) }

-- the tides of S in another order; k and the minima stay
unfoldable pub renumbered : (ℕ → ℕ) → Study → Study
renumbered to S = record { k = S.k; minima = S.minima; tides = tabulate (size S) (renumbered_tide to S) }

-- of every study and every order of its tides
pub record Renumberings : Type 0 where
  -- every study has its tides in every order
  pub in_any_order : (S : Study) (B : Permutation (size S))
      → (N : Renumbered S (renumbered B.to S)) × (N.to ≡ B.to) × (N.back ≡ B.back)
  -- and is valid in every order where it is in one
  pub valid : (S : Study) (B : Permutation (size S)) → Valid S → Valid (renumbered B.to S)
  -- its own order is one of them
  pub itself : (S : Study) → Renumbered S S
  -- so the bound holds against every feasible partition of the study itself
  pub bounded : (S : Study) → Valid S → (D : ℕ → ℕ) → Feasible (problem S) D
      → (radius (problem S) ≤ greatest_diameter (problem S) D)
      × (greatest_diameter (problem S) (labels (blocking (problem S))) ≤ 2 * greatest_diameter (problem S) D)
