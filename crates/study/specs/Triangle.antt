-- The triangle rule of three distances, in plain words. Assumes nothing.
use Rattle.std.specs.Prelude.{ℕ, ◌+◌, ◌≤◌}

-- no distance exceeds the sum of the other two
pub record Triangle (a b c : ℕ) : Type 0 where
  pub first : a ≤ b + c
  pub second : b ≤ a + c
  pub third : c ≤ a + b
