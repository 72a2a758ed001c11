-- A refusal leaves records and list; else all is as computed. There is no loop. Assumes nothing.
use Rattle.lists.proofs.Results.{handed_on}
use Rattle.blocking.proofs.BlockLaws.{block_accepted, block_refusal, records_stay, block_list_stays}
use Rattle.blocking.proofs.block.block_core.Goals as goal

pub returns-in_err-block_answer-clause-answer : goal.returns-in_err-block_answer-clause-answer
returns-in_err-block_answer-clause-answer c = block_refusal _ _ _ (handed_on c.from_residual.ensures.1) c.in_err-block_answer.ensures

pub returns-in_err-block_answer-clause-rows : goal.returns-in_err-block_answer-clause-rows
returns-in_err-block_answer-clause-rows c = records_stay _ _ _ (handed_on c.from_residual.ensures.1) c.in_err-block_answer.ensures

pub returns-in_err-block_answer-clause-list : goal.returns-in_err-block_answer-clause-list
returns-in_err-block_answer-clause-list c = block_list_stays _ _ _ c.in_err-block_answer.ensures

pub compute-requires : goal.compute-requires
compute-requires c = block_accepted _ _ _ c.in_ok-block_answer.was c.block_answer.ensures
