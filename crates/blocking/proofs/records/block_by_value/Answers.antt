-- Block, lent as many empty records as there can be blocks. Assumes nothing.
use Rattle.blocking.specs.Rows.{no_records}
use Rattle.blocking.proofs.records.block_by_value.Goals as goal

pub returns-clause-answer : goal.returns-clause-answer
unfolding no_records
returns-clause-answer c = c.block-answer.ensures.answer

pub returns-clause-list : goal.returns-clause-list
unfolding no_records
returns-clause-list c = c.block-answer.ensures.list

pub returns-clause-records : goal.returns-clause-records
unfolding no_records
returns-clause-records c = c.block-answer.ensures.records
