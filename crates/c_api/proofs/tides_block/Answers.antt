-- One law for each way out: a list that is too short, a refusal, an answer. Assumes nothing.
use Rattle.std.proofs.Common.{refl, arith, ◌∙◌, [], ◌∷◌}
use Rattle.blocking.specs.Calls.{makes_blocks}
use Rattle.c_api.proofs.CallLaws.{lacks_yes, record_short, list_short}
use Rattle.c_api.proofs.OutputLaws.{front_over}
use Rattle.c_api.proofs.BlockLaws.{block_why, block_narrow, block_value, count_is, blocks_small, columns_fit, makes_lent}
use Rattle.c_api.proofs.BlockLaws.{blocks_too_short, blocks_refused, blocks_done}
use Rattle.c_api.proofs.tides_block.Goals as goal

-- the record is too short
pub returns-then-numbers-lt-RECORD_SIZE : goal.returns-then-numbers-lt-RECORD_SIZE
returns-then-numbers-lt-RECORD_SIZE c =
    let told = blocks_too_short 3 _ _ (makes_blocks _) (makes_lent _) (record_short _ _ c.if-numbers-lt-RECORD_SIZE.true) in
    record { code = told.0; leaves = told.1 }

-- the result is
pub returns-then-res-lt3 : goal.returns-then-res-lt3
returns-then-res-lt3 c =
    let told = blocks_too_short 3 _ _ (makes_blocks _) (makes_lent _) (list_short _ (lacks_yes 3 _ c.if-res-lt3.true)) in
    record { code = told.0; leaves = told.1 }

pub refusal_code-requires : goal.refusal_code-requires
refusal_code-requires c = block_narrow _ _ _ _ c.in-Err.ensures.answer refl

pub put_columns-requires : goal.put_columns-requires
put_columns-requires c = columns_fit _ _ _ _ c.in-Ok.ensures.answer refl c.in-Ok.ensures.rows _ _ _ c.least-room.ensures

pub overflow_cast-blocks : goal.overflow_cast-blocks
overflow_cast-blocks c = omega (arith, blocks_small _ _ _ _ c.in-Ok.ensures.answer refl c.in-Ok.ensures.rows)

-- refused
pub returns-in-Err : goal.returns-in-Err
returns-in-Err c =
    let told =
    blocks_refused 3 _ _ (makes_blocks _) (makes_lent _)
    (record { room = c.if-numbers-lt-RECORD_SIZE.false; enough = c.if-res-lt3.false; held = c.dataset_of.ensures })
    c.least-room.ensures c.block_core.ensures.list (block_why _ _ _ _ c.in-Err.ensures.answer refl) c.refusal_code.ensures in
    record { code = told.0; leaves = told.1 }

-- divided
pub returns-in-Ok : goal.returns-in-Ok
returns-in-Ok c =
    let F = c.in-Ok.computed.figures in
    let answer = c.in-Ok.ensures.answer in
    let rows = c.in-Ok.ensures.rows in
    let put = c.put_columns.ensures in
    let told =
    blocks_done 3 _ _ (makes_blocks _) (makes_lent _)
    (record { room = c.if-numbers-lt-RECORD_SIZE.false; enough = c.if-res-lt3.false; held = c.dataset_of.ensures })
    c.least-room.ensures c.block_core.ensures.list (block_value _ _ _ _ answer refl) rows (count_is _ _ _ _ answer refl rows)
    put.centres put.sizes put.diameters (c.copy_front.ensures ∙ front_over (F.blocks ∷ F.radius ∷ F.widest ∷ []) c.args.res.now) in
    record { code = told.0; leaves = told.1 }
