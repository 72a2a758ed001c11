-- `write_file` meets its contract: there is no room, or all fields are written. Assumes nothing.
use Rattle.study_file.proofs.WriteCallLaws.{write_short, writable, write_done}
use Rattle.study_file.proofs.write_file.Goals as goal

pub returns-then-file-size : goal.returns-then-file-size
returns-then-file-size c =
    let told = write_short c.requires (rw c.from.ensures at c.byte_length-size.ensures.0) c.if-file-size.true in
    record { reply = told.0; leaves = told.1 }

pub put_fields-requires : goal.put_fields-requires
put_fields-requires c = writable c.requires (rw c.from.ensures at c.byte_length-size.ensures.0) c.if-file-size.false

pub returns : goal.returns
returns c =
    let told = write_done c.requires (rw c.from.ensures at c.byte_length-size.ensures.0) c.if-file-size.false c.put_fields.ensures in
    record { reply = told.0; leaves = told.1 }
