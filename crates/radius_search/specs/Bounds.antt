-- A bound below which no radius has an assignment: the first tide is always a centre, so its ball must be sufficient. Assumes nothing.
use Rattle.std.specs.Prelude.{ℕ, ◌<◌, List}
use Rattle.promise.specs.Promise.{Test}
use Rattle.radius_theory.specs.Arrays.{array_problem, ValidArrays}
use Rattle.radius_theory.specs.Radii.{Empty}

-- no radius below r has an assignment
pub record Bounded (d : List ℕ) (n : ℕ) (E : Test) (r : ℕ) : Type 0 where
  pub none : ValidArrays d n E → (h : ℕ) → h < r → Empty (array_problem d n E) h
