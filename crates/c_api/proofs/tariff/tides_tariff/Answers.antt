-- One law for each way out: a list that is too short, a refusal, an answer. Assumes nothing.
use Rattle.std.proofs.Common.{refl, arith}
use Rattle.priced_blocks.specs.Calls.{prices_blocks}
use Rattle.c_api.proofs.CallLaws.{lacks_yes, record_short, list_short}
use Rattle.c_api.proofs.BlockLaws.{block_narrow, count_is, blocks_small, columns_fit, blocks_too_short, blocks_refused, blocks_done}
use Rattle.c_api.proofs.TariffLaws.{prices_lent, refused_as_block, priced_as_block, tariff_why, tariff_numbers, bill_eight, bill_rows, written_bill}
use Rattle.c_api.proofs.tariff.tides_tariff.Goals as goal

-- the record is too short
pub returns-then-numbers-lt-RECORD_SIZE : goal.returns-then-numbers-lt-RECORD_SIZE
returns-then-numbers-lt-RECORD_SIZE c =
    let told = blocks_too_short 12 _ _ (prices_blocks _) (prices_lent _) (record_short _ _ c.if-numbers-lt-RECORD_SIZE.true) in
    record { code = told.0; leaves = told.1 }

-- the result is
pub returns-then-res-lt12 : goal.returns-then-res-lt12
returns-then-res-lt12 c =
    let told = blocks_too_short 12 _ _ (prices_blocks _) (prices_lent _) (list_short _ (lacks_yes 12 _ c.if-res-lt12.true)) in
    record { code = told.0; leaves = told.1 }

pub refusal_code-requires : goal.refusal_code-requires
refusal_code-requires c = block_narrow _ _ _ _ (refused_as_block _ _ _ c.in-Err.ensures.answer) refl

pub put_columns-requires : goal.put_columns-requires
put_columns-requires c =
    let told = c.in-Ok.ensures in
    columns_fit _ _ _ _ (priced_as_block _ _ _ _ told.answer) refl (bill_rows _ _ _ told.rows) _ _ _ c.least-room.ensures

pub bill_row-requires : goal.bill_row-requires
bill_row-requires c =
    let told = c.in-Ok.ensures in
    omega (arith, blocks_small _ _ _ _ (priced_as_block _ _ _ _ told.answer) refl (bill_rows _ _ _ told.rows))

-- refused
pub returns-in-Err : goal.returns-in-Err
returns-in-Err c =
    let told =
    blocks_refused 12 _ _ (prices_blocks _) (prices_lent _)
    (record { room = c.if-numbers-lt-RECORD_SIZE.false; enough = c.if-res-lt12.false; held = c.dataset_of.ensures })
    c.least-room.ensures c.price_core.ensures.list (tariff_why _ _ _ c.in-Err.ensures.answer) c.refusal_code.ensures in
    record { code = told.0; leaves = told.1 }

-- priced
pub returns-in-Ok : goal.returns-in-Ok
returns-in-Ok c =
    let core = c.in-Ok.ensures in
    let put = c.put_columns.ensures in
    let told =
    blocks_done 12 _ _ (prices_blocks _) (prices_lent _)
    (record { room = c.if-numbers-lt-RECORD_SIZE.false; enough = c.if-res-lt12.false; held = c.dataset_of.ensures })
    c.least-room.ensures c.price_core.ensures.list (tariff_numbers _ _ _ _ core.answer) core.rows
    (count_is _ _ _ _ (priced_as_block _ _ _ _ core.answer) refl (bill_rows _ _ _ core.rows))
    put.centres put.sizes put.diameters (written_bill _ _ (bill_eight _ _ _ _ core.answer) c.bill_row.ensures c.copy_front.ensures) in
    record { code = told.0; leaves = told.1 }
