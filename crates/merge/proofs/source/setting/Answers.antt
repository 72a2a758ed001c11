-- `setting` meets its contract: the memory of a dataset holds the settings of its study. Assumes nothing.
use mathlib.Core.Path.{sym}
use Rattle.validity.proofs.ValidityLaws.{study_setting}
use Rattle.merge.proofs.source.setting.Goals as goal

pub returns : goal.returns
returns c = sym (study_setting _ _ c.requires.t_lt_n)
