-- `add_tide` meets its contract: what `entered_state` says of row, setting and number. Assumes nothing.
use Rattle.std.proofs.Common.{refl}
use Rattle.dataset.proofs.AnswerLaws.{entered_state}
use Rattle.dataset.proofs.add_tide.Goals as goal

pub returns : goal.returns
returns c = entered_state _ _ _ c.requires c.put_row.ensures refl
