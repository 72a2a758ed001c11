-- The table of a measured study: its places, and its closure. Assumes nothing.
use Prim.Native.Nat.{ℕ, ◌≤◌, ◌<◌}
use native.Mathlib.Omega.{arith}
use mathlib.Core.Path.{◌≡◌, ◌∙◌}
use mathlib.Core.List.{List}
use borrow.Author.Tests.{lt-ltb, le-ltb}
use Rattle.std.specs.Prelude.{Result, Ok, Err}
use Rattle.study.specs.Limits.{cell}
use Rattle.study.specs.Refusals.{value}
use Rattle.metric_closure.specs.Closure.{lowered_pairs}
use Rattle.metric_closure.specs.Call.{entry, closed_table, close_answer, close_leaves, closed_of}
use Rattle.metric_closure.specs.Theorems.{Closable}
use Rattle.metric_closure.proofs.ClosureLaws.{lowered_few}
use Rattle.metric_closure.proofs.TableLaws.{few_places}
use Rattle.metric_closure.proofs.Proofs.{for_call, leaves_closed}
use Rattle.study.specs.declared.Refusal.{Refusal}
use Rattle.closure_text.specs.Rows.{lower_cell}

-- ---- a stored distance

module _ (d : List ℕ) (i j : ℕ) where
  pub earlier_cell : i < j → cell d j i ≡ lower_cell d i j
  unfolding lower_cell
  earlier_cell h = rw (lt-ltb i j h)

  pub later_cell : j < i → cell d i j ≡ lower_cell d i j
  unfolding lower_cell
  later_cell h = rw (le-ltb i j (omega arith), lt-ltb j i h)

  pub own_cell : j ≤ i → i ≤ j → 0 ≡ lower_cell d i j
  unfolding lower_cell
  own_cell h k = rw (le-ltb i j h, le-ltb j i k)

-- ---- the closure of a table that no reason refuses

module _ {n : ℕ} {l : List ℕ} (a : Result ℕ Refusal) (C : Closable n l) (e : closed_of a ≡ close_answer n l) where
  -- it answers a number
  told : closed_of a ≡ value (lowered_pairs n (entry n l))
  told = e ∙ (for_call n l).answer C

  pub told_pairs : {m : ℕ} → a ≡ Ok m → m ≡ lowered_pairs n (entry n l)
  told_pairs h = let t = told in cc

  -- of 32 bits
  pub pairs_few : {m : ℕ} → a ≡ Ok m → m < 4294967296
  pairs_few h = omega (arith, told_pairs h, lowered_few n (entry n l), few_places n C.few)

  pub never_refused : {A : Type 0} {r : Refusal} → a ≡ Err r → A
  never_refused h = let t = told in absurd (let z : ◌≡◌ {A = ℕ} 0 1 = cc in omega arith)

  pub closed_left : {new : List ℕ} → new ≡ close_leaves n l → new ≡ closed_table n l
  closed_left h = h ∙ leaves_closed n l C
