-- `read` meets its contract: what refuses leaves record and memory as they are, and each way out has one law. Assumes nothing.
use mathlib.Core.Path.{refl}
use Rattle.lists.proofs.Results.{handed_on}
use Rattle.validity.proofs.LayoutLaws.{short_test}
use Rattle.study_file.proofs.ReadCallLaws.{tides_begin, read_short, read_head, read_tide, read_done}
use Rattle.study_file.proofs.read.Goals as goal

-- the memory is too short
pub returns-then-is_short : goal.returns-then-is_short
returns-then-is_short c =
    let told = read_short _ _ (short_test _ c.is_short.ensures.short c.if-is_short.true) in
    record { answer = told.0; leaves = told.1 }

-- refused before any tide
pub returns-in_err-next : goal.returns-in_err-next
returns-in_err-next c =
    let long = short_test _ c.is_short.ensures.short c.if-is_short.false in
    let told = read_head _ c.args.file.now long (handed_on c.from_residual.ensures.1) c.in_err-next.ensures in
    record { answer = told.0; leaves = told.1 }

pub read_tides-tides-requires : goal.read_tides-tides-requires
read_tides-tides-requires c =
    let got = c.in_ok-next.ensures in rw c.from.ensures (tides_begin c.args.file.now got.0 got.1 refl refl)

-- refused while a tide is read
pub returns-in_default : goal.returns-in_default
returns-in_default c =
    let long = short_test _ c.is_short.ensures.short c.if-is_short.false in
    let told = read_tide _ c.args.file.now long c.in_default.is c.read_tides-tides.ensures c.in_default.is in
    record { answer = told.0; leaves = told.1 }

-- all is read
pub returns : goal.returns
returns c =
    let long = short_test _ c.is_short.ensures.short c.if-is_short.false in
    let got = c.in_ok-next.ensures in
    let told =
    read_done _ c.args.file.now long c.read_tides-tides.ensures c.in-Ok.is (got.1.is c.args.dataset.now)
    c.copy_front.ensures c.copy_front-2.ensures in
    record { answer = told.0; leaves = told.1 }
