-- `read_tides` meets its contract: the loop's invariant: the first t tides are read, and the reader has moved on over the same bytes.
use Rattle.std.proofs.Common.{◌≡◌}
use Rattle.file_fields.specs.Loading.{TidesRead}
use Rattle.file_fields.proofs.tides.read_tides.Given as goal

abbrev pub invariant-loop-t : goal.invariant-loop-t
invariant-loop-t l =
    record {
      same : l.reader.bytes ≡ l.initial.reader.bytes;
      read : TidesRead l.initial.reader.bytes.now l.t l.reader.place l.matrix l.vector;
    }
