-- Measured texts, what is said of them, and their closures' texts. There are no proofs here: CasesProof.antt proves both statements, by
-- computation. Assumes nothing.
use Rattle.std.specs.Prelude.{ℕ, ◌≡◌, List, [], ◌∷◌, map}
use Prim.Native.String.{String}
use Rattle.study.specs.Refusals.{number}
use Rattle.sheet_text.specs.Text.{ascii}
use Rattle.study_text.specs.declared.Rule.TheVariants as RuleCase
use Rattle.study_text.specs.Packing.{done, refused_at, not_number, too_large, missing, Turn, going, ended, stopped, text_of}
use Rattle.study_text.specs.Cases.{TextCase, ◌gives◌}
use Rattle.closure_text.specs.Text.{closure_text, text_room, mend_answer}

-- with all the room that is asked for
unfoldable pub cases : List TextCase
cases =
    -- no tide; three that break the triangle inequality, which pack refuses
    ("2 3 1 1" gives done 26)
    ∷ ("1\n1 0\n1\n1 5\n1 9 2\n" gives done 36)
    -- a duplicate stays; pack refuses it (document 02, 2.8)
    ∷ ("1\n1 0\n1\n1 0\n" gives done 30)
    -- what is no number, too large, missing
    ∷ ("1\n1 0\n1\n1 x\n" gives not_number 4)
    ∷ ("1\n1 0\n1\n1 4294967296\n" gives too_large 4)
    ∷ ("1\n1 0\n1\n1\n" gives missing 5)
    -- refused; a setting before a distance
    ∷ ("9" gives refused_at 1 (number 2))
    ∷ ("1\n121 0" gives refused_at 2 (number 3))
    ∷ ("1\n1 0\n1\n257 1048576" gives refused_at 4 (number 5))
    ∷ ("1\n1 0\n1\n1 1048576" gives refused_at 4 (number 6))
    ∷ []

-- of each text is said what stands beside it
abbrev pub Said : Type 0
Said = map (λ (c : TextCase). mend_answer (ascii c.text) text_room) cases ≡ map (λ (c : TextCase). c.report) cases

-- one place less
abbrev pub Roomless : Type 0
Roomless = mend_answer (ascii "1 1 0\n1\n") 131071 ≡ refused_at 3 (number 1)

-- the closure's text of a text that comes to its end
abbrev pub text_in : Turn → List ℕ
text_in (ended H l) = closure_text H.study
text_in (going H c) = []
text_in (stopped t) = []

-- a tide between lowers one pair; two in falling order lower three; b0 is printed as it is understood
abbrev pub Printed : Type 0
Printed =
    map (λ (s : String). text_in (text_of RuleCase.Measured (ascii s)))
    ("1 # k\n1 0\n1\n1 5\n1 9 2\n" ∷ "2\n2 1 0\n2\n1 9\n2 1 1\n1 9 1 9" ∷ "2 1 1 1" ∷ [])
    ≡ ascii "# 1 pairs lowered\n1\n1 0\n1\n1 5\n1 7 2\n" ∷ ascii "# 3 pairs lowered\n2\n2 1 0\n2\n1 2\n2 1 1\n1 3 1 2\n"
    ∷ ascii "# 0 pairs lowered\n2\n2 1 1\n" ∷ []
