-- The scan for a duplicate (document 02, 2.8: a twin), by the settings in memory. Assumes nothing.
use Rattle.std.specs.Prelude.{ℕ, Bool, cond, List, length, get_or}
use Rattle.study.specs.Refusals.{number, Verdict, accepted, refused}
use Rattle.study.specs.Calls.{alike, duplicated}

-- a new tide is a duplicate of tide i, by the settings in memory
unfoldable pub duplicate_of : List ℕ → ℕ → List ℕ → ℕ → Bool
duplicate_of settings setting row i = alike (get_or settings i 0) setting (get_or row i 0)

-- the last of Enter's reasons, by the settings in memory
unfoldable pub duplicate_answer : List ℕ → ℕ → List ℕ → Verdict
duplicate_answer settings setting row =
    cond (duplicated (λ i. get_or settings i 0) (length row) setting (λ i. get_or row i 0)) (refused (number 15)) accepted
