-- Of an input that is longer than the longest file, of 17,914 bytes, one byte more decides. There are no proofs here: `decided` of
-- LimitLaws.antt proves the statement. Assumes nothing.
use Rattle.std.specs.Prelude.{ℕ, ◌≡◌, List, take}
use Rattle.sheet_of_file.specs.Sheet.{sheet_of}

-- the first 17,915 bytes of an input have the text of the whole input
abbrev pub FirstBytesDecide : (List ℕ → List ℕ) → Type 0
FirstBytesDecide text = (input : List ℕ) → text (take 17915 input) ≡ text input

-- they have its sheet
abbrev pub Decided : Type 0
Decided = FirstBytesDecide sheet_of
