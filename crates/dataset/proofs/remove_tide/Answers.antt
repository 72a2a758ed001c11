-- `remove_tide` meets its contract: what `withdrawn_state` says of rows, settings, number and count. Assumes nothing.
use Rattle.study.specs.Calls.{counted}
use Rattle.dataset.proofs.AnswerLaws.{withdrawn_state}
use Rattle.dataset.proofs.remove_tide.Goals as goal

pub returns : goal.returns
unfolding counted
returns c = withdrawn_state _ _ _ c.requires c.remove_row.ensures c.remove_setting.ensures
