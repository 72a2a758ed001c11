-- The digits to come, after the value so far, give the word's number up to the cap. Assumes nothing.
use Rattle.lists.specs.Lists.{all_of}
use lib.ListN.{drop}
use mathlib.Core.Path.{◌≡◌}
use Prim.Native.Nat.{◌≤◌}
use Rattle.text_words.specs.Words.{digit, value_from, capped}
use Rattle.text_words.proofs.numeral_of.Given as goal

abbrev pub invariant-loop-b : goal.invariant-loop-b
invariant-loop-b l =
    (l.value ≤ 4294967296) × (all_of digit (drop l.b-index l.word) ≡ all_of digit l.word)
    × (capped (value_from l.value (drop l.b-index l.word)) ≡ capped (value_from 0 l.word))
