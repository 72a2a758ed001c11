-- The shams of document 01's "Agreed between us": what each of them would answer of a small study contradicts the demand that is named
-- there. There are no proofs here; `shams` of proofs/ShamsProof.antt proves the record. Assumes nothing.
use Rattle.std.specs.Prelude.{ℕ, ◌≡◌, List, [], ◌∷◌, replicate}
use Rattle.study.specs.declared.BlockRecord.{BlockRecord}
use Rattle.study.specs.Problem.{Feasible}
use Rattle.study.specs.Study.{Study, problem}
use Rattle.study.specs.declared.Figures.{Figures}
use Rattle.study.specs.Calls.{opened}
use Rattle.file_format.specs.Cases.{plain}
use Rattle.guarantee.specs.Ledger.{empty_ledger, with_arrival, Exactly}
use Rattle.guarantee.specs.Theorems.{Guaranteed, CanonicalBlock}

-- three pairs of tides on a line, b0 = 2: blocks of width 1 exist
unfoldable pub pairs : Study
pairs = plain 2 (0 ∷ 1 ∷ 10 ∷ 11 ∷ 20 ∷ 21 ∷ [])

-- the same tides in another order
unfoldable pub mixed : Study
mixed = plain 2 (0 ∷ 10 ∷ 20 ∷ 1 ∷ 11 ∷ 21 ∷ [])

-- each sham's answer, and that it contradicts
pub record Shams : Type 0 where
  -- all tides in one block: demand 3 stops it
  pub one_block : (F : Figures) → Guaranteed pairs F (1 ∷ 1 ∷ 1 ∷ 1 ∷ 1 ∷ 1 ∷ []) → ⊥
  -- good first blocks, the rest thrown into the last: demand 3
  pub rest_in_last : (F : Figures) → Guaranteed pairs F (1 ∷ 1 ∷ 2 ∷ 2 ∷ 2 ∷ 2 ∷ []) → ⊥
  -- a reach of 0 printed beside honest blocks: demand 2, least reach
  pub zero_radius : (F : Figures) (list₀ list : List ℕ) (records₀ records : List BlockRecord) → CanonicalBlock pairs F list₀ list records₀ records
      → F.radius ≡ 0 → ⊥
  -- later entries acknowledged only: demand 2, the book
  pub only_acknowledged : (setting : ℕ) (row : List ℕ) → Exactly (opened 1) (with_arrival setting row empty_ledger) → ⊥
  -- the same list for every study: demand 2
  pub same_list : (F G : Figures) (list₀ list : List ℕ) (records₀ records records' : List BlockRecord)
      → CanonicalBlock pairs F list₀ list records₀ records → CanonicalBlock mixed G list₀ list records₀ records' → ⊥
  -- an untouched buffer: demand 2
  pub untouched : (F : Figures) (records₀ records : List BlockRecord) → CanonicalBlock pairs F (replicate 6 0) (replicate 6 0) records₀ records → ⊥
  -- 25 before counting, or for every study: demand 2, too few, since this study has a feasible partition
  pub not_too_few : (D : ℕ → ℕ) × Feasible (problem pairs) D
