-- From here the next word begins where it begins from the start. Assumes nothing.
use lib.ListN.{drop}
use mathlib.Core.Bool.{false}
use mathlib.Core.Path.{◌≡◌}
use Prim.Native.Nat.{◌+◌, ◌≤◌}
use Rattle.text_words.specs.Words.{start_of}
use Rattle.text_words.proofs.skip.Given as goal

abbrev pub invariant-loop-at : goal.invariant-loop-at
invariant-loop-at l =
    (l.line ≤ l.at + 1)
    × (start_of l.comment (record { at = l.at; line = l.line }) (drop l.at l.text) ≡ start_of false l.fn.from (drop l.fn.from.at l.text))
