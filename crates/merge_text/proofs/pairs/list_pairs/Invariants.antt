-- `list_pairs` meets its contract. The loop's invariant: after as many steps as pairs are listed, the text stands at this place; the bytes that are
-- left become fewer. Assumes nothing.
use Prim.Native.Nat.{◌-◌, ◌≤◌}
use mathlib.Core.Path.{◌≡◌}
use lib.ListN.{length}
use Rattle.merge_text.proofs.ListingLaws.{Listing}
use Rattle.merge_text.proofs.pairs.list_pairs.Given as goal

abbrev pub invariant-loop-pair : goal.invariant-loop-pair
invariant-loop-pair l =
    Listing l.text l.count l.firsts l.seconds l.last l.cursor × (65536 ≤ length l.firsts) × (65536 ≤ length l.seconds)
    × (length l.firsts ≡ length l.initial.firsts) × (length l.seconds ≡ length l.initial.seconds)

abbrev pub decreases-loop-pair : goal.decreases-loop-pair
decreases-loop-pair l = 131073 - l.cursor.at
