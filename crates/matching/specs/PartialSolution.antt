-- Document 01's remark in brackets: section 3's partial solution exists exactly when an assignment does. There is no proof here;
-- `partial_solution_exactly` of PartialSolutionProof.antt proves it. Assumes nothing.
use Rattle.std.specs.Prelude.{ℕ, suc, ◌≤◌, ◌<◌, ◌≡◌, ◌↔◌, ◌&&◌, T, eqb, length, get_or}
use Rattle.lists.specs.Lists.{count_below}
use Rattle.study.specs.Limits.{max_settings}
use Rattle.study.specs.Problem.{centres, centre_of, block, assignable}
use Rattle.study.specs.Study.{Study, size, tide, problem, Valid}

-- a partial partition at radius g: D gives some tides a block, 1, 2, .., and the others 0. Each is within g of its block's centre,
-- and each block has exactly b0 tides, at least b of each setting
pub record PartialSolution (S : Study) (g : ℕ) (D : ℕ → ℕ) : Type 0 where
  pub inside : (t : ℕ) → t < size S → D t ≤ length (centres (problem S) g)
  pub in_radius : (t : ℕ) → t < size S → 1 ≤ D t → (problem S).dist (centre_of (centres (problem S) g) (D t)) t ≤ g
  pub whole : (m : ℕ) → 1 ≤ m → m ≤ length (centres (problem S) g) → count_below (size S) (block D m) ≡ S.minima.b0
  pub each : (m : ℕ) → 1 ≤ m → m ≤ length (centres (problem S) g) → (j : ℕ) → j < max_settings
      → get_or S.minima.b j 0 ≤ count_below (size S) (λ t. block D m t && eqb (tide S t).setting (suc j))

-- document 01's remark: in a valid study a partial solution exists at a radius exactly when an assignment does
abbrev pub PartialSolutionExactly : Type 0
PartialSolutionExactly = (S : Study) → Valid S → (g : ℕ) → ((D : ℕ → ℕ) × PartialSolution S g D) ↔ T (assignable (problem S) g)
