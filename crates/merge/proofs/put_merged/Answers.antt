-- `put_merged` meets its contract: what it writes lays out the merged study. Assumes nothing.
use native.Mathlib.Omega.{arith}
use Rattle.merge.proofs.TableLaws.{paired_tables, joining_remaining}
use Rattle.merge.proofs.AnswerLaws.{accepted_joining, merged_state}
use Rattle.merge.proofs.put_merged.Goals as goal

pub put_distances-requires-clause-tables : goal.put_distances-requires-clause-tables
put_distances-requires-clause-tables c =
    paired_tables c.requires.paired

pub put_distances-requires-clause-remaining : goal.put_distances-requires-clause-remaining
put_distances-requires-clause-remaining c =
    joining_remaining (accepted_joining _ _ _ _ _ c.requires c.find_rest-rest.ensures)

pub put_settings-requires-clause-remaining : goal.put_settings-requires-clause-remaining
put_settings-requires-clause-remaining c =
    joining_remaining (accepted_joining _ _ _ _ _ c.requires c.find_rest-rest.ensures)

pub overflow_add-into : goal.overflow_add-into
overflow_add-into c =
    omega (arith, (accepted_joining _ _ _ _ _ c.requires c.find_rest-rest.ensures).few)

pub returns : goal.returns
returns c =
    merged_state _ _ _ _ _ c.requires c.find_rest-rest.ensures c.added_counts-into.ensures
    c.put_distances.ensures c.put_settings.ensures
