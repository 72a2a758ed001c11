-- Worked cases: tables, and what the call answers and leaves of each. There are no proofs here: CasesProof.antt proves both statements, by
-- computation. Assumes nothing.
use Rattle.std.specs.Prelude.{ℕ, ◌≡◌, List, [], ◌∷◌, map}
use Rattle.study.specs.Refusals.{number, Reply, value, refusal}
use Rattle.metric_closure.specs.Call.{close_answer, close_leaves}

-- a table of n tides, the answer, and the table afterwards
pub record TableCase : Type 0 where
  pub n : ℕ
  pub table : List ℕ
  pub answer : Reply ℕ
  pub left : List ℕ

-- a table that is closed
abbrev pub closing : ℕ → List ℕ → ℕ → List ℕ → TableCase
closing n l lowered m = record { n = n; table = l; answer = value lowered; left = m }

-- a table that is refused, and stays as it was
abbrev pub refusing : ℕ → List ℕ → ℕ → TableCase
refusing n l r = record { n = n; table = l; answer = refusal (number r); left = l }

-- the cases
unfoldable pub cases : List TableCase
cases =
    -- no tides; one tide
    closing 0 (7 ∷ []) 0 (7 ∷ [])
    ∷ closing 1 (0 ∷ 7 ∷ []) 0 (0 ∷ 7 ∷ [])
    -- one tide between; the place past the table stays
    ∷ closing 3 (0 ∷ 5 ∷ 9 ∷ 5 ∷ 0 ∷ 2 ∷ 9 ∷ 2 ∷ 0 ∷ 7 ∷ []) 1 (0 ∷ 5 ∷ 7 ∷ 5 ∷ 0 ∷ 2 ∷ 7 ∷ 2 ∷ 0 ∷ 7 ∷ [])
    -- two tides between, in falling order: 0, 2, 1, 3
    ∷ closing 4
    (0 ∷ 9 ∷ 1 ∷ 9 ∷ 9 ∷ 0 ∷ 1 ∷ 1 ∷ 1 ∷ 1 ∷ 0 ∷ 9 ∷ 9 ∷ 1 ∷ 9 ∷ 0 ∷ []) 3
    (0 ∷ 2 ∷ 1 ∷ 3 ∷ 2 ∷ 0 ∷ 1 ∷ 1 ∷ 1 ∷ 1 ∷ 0 ∷ 2 ∷ 3 ∷ 1 ∷ 2 ∷ 0 ∷ [])
    -- a table that obeys the triangle inequality
    ∷ closing 3 (0 ∷ 5 ∷ 7 ∷ 5 ∷ 0 ∷ 2 ∷ 7 ∷ 2 ∷ 0 ∷ []) 0 (0 ∷ 5 ∷ 7 ∷ 5 ∷ 0 ∷ 2 ∷ 7 ∷ 2 ∷ 0 ∷ [])
    -- where two reasons hold the earlier counts: 10 and 1; 1 and 6; 6, on the diagonal, and 13; then 13 both ways, and on the diagonal
    ∷ refusing 121 [] 10
    ∷ refusing 2 (1048576 ∷ 1 ∷ 1 ∷ []) 1
    ∷ refusing 2 (1048576 ∷ 1 ∷ 2 ∷ 0 ∷ []) 6
    ∷ refusing 2 (0 ∷ 1 ∷ 2 ∷ 0 ∷ 1048576 ∷ []) 13
    ∷ refusing 1 (1 ∷ []) 13
    ∷ []

-- the call answers what stands beside each table
abbrev pub Answered : Type 0
Answered = map (λ (c : TableCase). close_answer c.n c.table) cases ≡ map (λ (c : TableCase). c.answer) cases

-- and leaves it so
abbrev pub Left : Type 0
Left = map (λ (c : TableCase). close_leaves c.n c.table) cases ≡ map (λ (c : TableCase). c.left) cases
