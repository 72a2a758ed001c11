-- What is proved of a measured study, its closure and the closure's text; there are no proofs here. `for_closure` and `for_texts` of
-- Proofs.antt prove `EveryStudy` and `EveryText`. Assumes nothing.
use Rattle.std.specs.Prelude.{ℕ, ◌≤◌, ◌<◌, ◌≡◌, ◌↔◌, true, false, List, length, replicate}
use Rattle.study.specs.Limits.{max_users}
use Rattle.study.specs.Study.{Study, Contents, size, tide, distance, TriangleInequality, Valid, MeasuredStudy}
use Rattle.study.specs.Refusals.{number}
use Rattle.study.specs.Calls.{holds_duplicate}
use Rattle.metric_closure.specs.Closure.{closure}
use Rattle.study_text.specs.declared.Rule.TheVariants as RuleCase
use Rattle.study_text.specs.Packing.{refused_at, ended, stopped, text_of}
use Rattle.closure_text.specs.Text.{lowered, closed_study, closure_text}

-- a study with nothing withdrawn
abbrev pub fresh : Study → Contents
fresh S = record { study = S; withdrawals = replicate max_users 0 }

-- the closure of a measured study, and its text
pub record ForClosure (S : Study) : Type 0 where
  -- its closure is a valid study: the settings stay, the distances are the closure of those measured
  pub valid : Valid (closed_study S)
  pub settings : (t : ℕ) → t < size S → (tide (closed_study S) t).setting ≡ (tide S t).setting
  pub distances : (t u : ℕ) → t < size S → u < size S → distance (closed_study S) t u ≡ closure (size S) (distance S) t u
  -- a study that obeys the triangle inequality stays as it was; then, and only then, no pair is lowered
  pub own : TriangleInequality S → closed_study S ≡ S
  pub none_lowered : lowered S ≡ 0 ↔ TriangleInequality S
  -- pack takes the closure's text, and reads the closure from it; or refuses it, where the closure holds a duplicate (document 02, 2.8)
  pub short : length (closure_text S) ≤ 131072
  pub read_back : holds_duplicate (closed_study S) ≡ false → (l : ℕ) × (text_of RuleCase.Entered (closure_text S) ≡ ended (fresh (closed_study S)) l)
  pub read_refused : holds_duplicate (closed_study S) ≡ true → (l : ℕ) × (text_of RuleCase.Entered (closure_text S) ≡ stopped (refused_at l (number 15)))

-- of any study as document 01 describes it, but for the triangle inequality
abbrev pub EveryStudy : Type 0
EveryStudy = (S : Study) → MeasuredStudy S → ForClosure S

-- of any text that mend takes: its study is such a one
abbrev pub EveryText : Type 0
EveryText = (text : List ℕ) (H : Contents) (l : ℕ) → text_of RuleCase.Measured text ≡ ended H l → ForClosure H.study
