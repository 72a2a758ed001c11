-- What the scan for a duplicate answers. Assumes nothing.
use Prim.Native.Nat.{ℕ, ◌≤◌, ◌<◌}
use mathlib.Core.Path.{◌≡◌, sym, ap}
use mathlib.Core.Bool.{Bool, true, false, cond, not}
use mathlib.Core.List.{List}
use lib.ListN.{length}
use Rattle.lists.specs.Lists.{every}
use Rattle.lists.proofs.Scans.{every_fails, every_done}
use Rattle.study.specs.Refusals.{number, accepted, refused}
use Rattle.study.specs.Calls.{duplicated}
use Rattle.duplicates.specs.Scan.{duplicate_of, duplicate_answer}

-- it found one, or passed all tides
module _ (settings : List ℕ) (setting : ℕ) (row : List ℕ) where
  abbrev pub differs : ℕ → Bool
  differs i = not (duplicate_of settings setting row i)

  scanned : (b : Bool) → every (length row) differs ≡ b → cond (not b) (refused (number 15)) accepted ≡ duplicate_answer settings setting row
  unfolding duplicate_answer duplicated duplicate_of
  scanned b e = ap (λ b. cond (not b) (refused (number 15)) accepted) (sym e)

  pub duplicate_found : (i : ℕ) → i < length row → duplicate_of settings setting row i ≡ true
      → refused (number 15) ≡ duplicate_answer settings setting row
  duplicate_found i l e = scanned false (every_fails differs (length row) i l (ap not e))

  pub duplicate_none : (i : ℕ) → i ≤ length row → length row ≤ i → every i differs ≡ true → accepted ≡ duplicate_answer settings setting row
  duplicate_none i a b e = scanned true (every_done differs i (length row) a b e)
