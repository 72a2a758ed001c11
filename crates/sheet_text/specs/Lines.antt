-- A number with the words and the byte around it, as the code puts it. Assumes nothing.
use Rattle.std.specs.Prelude.{ℕ, List, [], ◌∷◌, ◌++◌}
use Rattle.sheet_text.specs.Text.{decimal}

-- a number and the byte after it
unfoldable pub field : ℕ → ℕ → List ℕ
field x mark = decimal x ++ (mark ∷ [])

-- a field with words before it
unfoldable pub named : List ℕ → ℕ → ℕ → List ℕ
named name x mark = name ++ field x mark
