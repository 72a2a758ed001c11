-- `moved_distance` meets its contract: one law of Places for each way out. Assumes nothing.
use Rattle.storage.proofs.PlaceLaws.{moved_no_row, moved_no_column, moved_place}
use Rattle.storage.proofs.moved_distance.Goals as goal

pub returns-then-i-ge-MAX_TIDES : goal.returns-then-i-ge-MAX_TIDES
returns-then-i-ge-MAX_TIDES c = moved_no_row _ _ _ c.number_before-i.ensures.0 c.number_before-j.ensures.0 c.if-i-ge-MAX_TIDES.true

pub returns-then-j-ge-MAX_TIDES : goal.returns-then-j-ge-MAX_TIDES
returns-then-j-ge-MAX_TIDES c =
    moved_no_column _ _ _ c.number_before-i.ensures.0 c.number_before-j.ensures.0 c.if-i-ge-MAX_TIDES.false c.if-j-ge-MAX_TIDES.true

pub returns : goal.returns
returns c =
    moved_place _ _ _ c.number_before-i.ensures.0 c.number_before-j.ensures.0 c.if-i-ge-MAX_TIDES.false c.if-j-ge-MAX_TIDES.false
