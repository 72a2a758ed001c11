-- `take_row` meets its contract: the loop's invariant: the first i distances stand in row and column, memory keeps its length, and the reader has
-- moved on over the same bytes, past 20i bits of the row.
use Rattle.std.proofs.Common.{◌≡◌, ◌+◌, ◌*◌, length}
use Rattle.bit_reader.specs.Fields.{BitsRead}
use Rattle.storage.specs.Places.{with_row}
use Rattle.file_fields.specs.Rows.{row_record, row_start}
use Rattle.file_fields.proofs.tides.take_row.Given as goal

abbrev pub invariant-loop-i : goal.invariant-loop-i
invariant-loop-i l =
    let s = l.initial.reader.bytes.now in
    record {
      same : l.reader.bytes ≡ l.initial.reader.bytes;
      row : l.matrix ≡ with_row (row_record s (row_start s l.t) l.t) l.i l.initial.matrix;
      long : length l.matrix ≡ length l.initial.matrix;
      here : BitsRead l.reader.place (row_start s l.t + 20 * l.i);
    }
