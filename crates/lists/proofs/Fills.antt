-- A loop that writes place after place of memory, which keeps its length: at place p the first p of n places hold a table, and the rest is
-- as before. Assumes nothing.
use Prim.Native.Nat.{ℕ, ◌+◌, ◌≤◌, ◌<◌}
use native.Mathlib.Omega.{arith}
use mathlib.Core.Path.{◌≡◌, refl}
use mathlib.Core.List.{List}
use lib.ListN.{length, set, length-set}
use Rattle.lists.specs.Lists.{overwrite}
use Rattle.lists.proofs.Tables.{overwrite_none, overwrite_step, overwrite_done}

-- the first p of n places hold f 0, f 1, ..
pub record Filled (n : ℕ) (f : ℕ → ℕ) (old new : List ℕ) (p : ℕ) : Type 0 where
  pub low : p ≤ n
  pub is : new ≡ overwrite p f old
  pub same : length new ≡ length old

module _ {n : ℕ} {f : ℕ → ℕ} where
  -- at the beginning
  pub filled_none : {l : List ℕ} → Filled n f l l 0
  filled_none {l} = record { low = omega arith; is = overwrite_none f l; same = refl }

  -- one more place
  pub filled_more : {old new : List ℕ} {p v : ℕ} → Filled n f old new p → p < n → n ≤ length old → v ≡ f p → Filled n f old (set new p v) (p + 1)
  filled_more {old} {new} {p} {v} F l fits e =
      record { low = omega arith; is = overwrite_step f old v F.is e (omega arith); same = simp length-set F.same }

  -- at the end
  pub filled_done : {old new : List ℕ} {p : ℕ} → Filled n f old new p → n ≤ p → new ≡ overwrite n f old
  filled_done {old} {new} {p} F l = overwrite_done f old (omega (arith, F.low)) F.is
