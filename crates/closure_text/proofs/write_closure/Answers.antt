-- `write_closure` meets its contract: no room, or the closure's text. Assumes nothing.
use Rattle.validity.specs.View.{seen}
use Rattle.closure_text.proofs.ClosedLaws.{roomless, put_ends}
use Rattle.closure_text.proofs.write_closure.Goals as goal

pub returns-then-out-lt-TEXT_ROOM : goal.returns-then-out-lt-TEXT_ROOM
returns-then-out-lt-TEXT_ROOM c =
    let told = roomless (seen c.args.view) c.args.line c.args.out.now c.if-out-lt-TEXT_ROOM.true in
    record { told = told.0; leaves = told.1 }

pub returns : goal.returns
returns c =
    let told = put_ends (seen c.args.view) c.args.line c.args.out.now c.if-out-lt-TEXT_ROOM.false c.put_closure.ensures in
    record { told = told.0; leaves = told.1 }
