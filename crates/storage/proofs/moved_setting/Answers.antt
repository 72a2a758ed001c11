-- `moved_setting` meets its contract: one law of Places for each way out. Assumes nothing.
use Rattle.storage.proofs.PlaceLaws.{moved_none, moved_one}
use Rattle.storage.proofs.moved_setting.Goals as goal

pub returns-then-i-ge-MAX_TIDES : goal.returns-then-i-ge-MAX_TIDES
returns-then-i-ge-MAX_TIDES c = moved_none _ _ _ c.number_before-i.ensures.0 c.if-i-ge-MAX_TIDES.true

pub returns : goal.returns
returns c = moved_one _ _ _ c.number_before-i.ensures.0 c.if-i-ge-MAX_TIDES.false
