-- Of a file that is longer than the longest one, one byte more decides, as for the sheet. There are no proofs here: `decided` of LimitLaws.antt
-- proves the statement. Assumes nothing.
use Rattle.std.specs.Prelude.{ℕ, ◌≡◌, List, take}
use Rattle.merge_text.specs.Joining.{joined}

-- of the first 17,915 bytes of each file is made what is made of the whole files
abbrev pub Decided : Type 0
Decided = (first second pairs : List ℕ) → joined (take 17915 first) (take 17915 second) pairs ≡ joined first second pairs
