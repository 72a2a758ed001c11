-- `distance` meets its contract: the memory of a dataset holds the distances of its study. Assumes nothing.
use mathlib.Core.Path.{sym}
use Rattle.validity.proofs.ValidityLaws.{study_distance}
use Rattle.merge.proofs.source.distance.Goals as goal

pub returns : goal.returns
returns c =
    let pre = c.requires in
    let study = pre.passed.study in
    (sym (study_distance _ study _ _ pre.t_lt_n.0 pre.t_lt_n.1), study.distance_high _ _ pre.t_lt_n.0 pre.t_lt_n.1)
