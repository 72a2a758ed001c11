-- Numbers given to calls as bytes: 255, which no call takes, stands for every greater number. `Unchanged` says that nothing changes by
-- it; `unchanged` of proofs/Proofs.antt proves it. Assumes nothing.
use Rattle.std.specs.Prelude.{ℕ, ◌≡◌, true, cond, List, map, ltb}
use Rattle.study.specs.declared.Minima.{Minima}
use Rattle.study.specs.declared.Dataset.{Dataset}
use Rattle.validity.specs.Memory.{State, state_of, is_dataset, set_k, set_minima}
use Rattle.access.specs.Calls.{Call, held, answer, after}
use Rattle.dataset.specs.Calls.{opens_dataset, sets_minima, enters_tide, withdraws_tide}

-- 255 for each number above it
unfoldable pub narrowed : ℕ → ℕ
narrowed x = cond (ltb x 256) x 255

-- each of the minima
unfoldable pub narrow_minima : Minima → Minima
narrow_minima M = record { b0 = narrowed M.b0; b = map narrowed M.b }

-- a record with its k and its minima narrowed
unfoldable pub narrow_dataset : Dataset → Dataset
narrow_dataset r = set_k (narrowed r.k) (set_minima (narrow_minima r.minima) r)

-- the memory stays
abbrev pub narrow_state : State → State
narrow_state s = state_of (narrow_dataset s.dataset) s.distances s.settings

-- two calls answer and leave the same
abbrev pub Alike : State → Call → Call → Type 0
Alike s c d = (answer s c ≡ answer s d) × (after s c ≡ after s d)

-- for any record and memory: no answer changes, and nothing that a call leaves
pub record Unchanged (s : State) : Type 0 where
  pub on_open : (k : ℕ) → Alike s (opens_dataset (narrowed k)) (opens_dataset k)
  pub on_minima : (M : Minima) → Alike s (sets_minima (narrow_minima M)) (sets_minima M)
  pub on_enter : (setting : ℕ) (row : List ℕ) → Alike s (enters_tide (narrowed setting) row) (enters_tide setting row)
  pub on_withdraw : (u t : ℕ) → Alike s (withdraws_tide (narrowed u) (narrowed t)) (withdraws_tide u t)
  -- of the record itself: the same is held, so any call answers and tells the same; where a dataset is held, the record was within bytes
  pub on_record : held (narrow_state s) ≡ held s
  pub within : is_dataset s ≡ true → narrow_state s ≡ s
