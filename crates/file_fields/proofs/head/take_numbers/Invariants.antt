-- `take_numbers` meets its contract: the loop's invariant: the reader has moved on over the same bytes, and the first i numbers are taken. How many
-- bits were read before the first of them is what the place says.
use Rattle.std.proofs.Common.{◌≡◌, ◌+◌, ◌*◌}
use Rattle.file_fields.proofs.TakingLaws.{Taken}
use Rattle.file_fields.proofs.head.take_numbers.Given as goal

abbrev pub invariant-loop-i : goal.invariant-loop-i
invariant-loop-i g l =
    let place = l.initial.reader.place in
    record {
      same : l.reader.bytes ≡ l.initial.reader.bytes;
      taken : Taken l.initial.reader.bytes.now l.width (8 * place.byte + place.bit) l.count l.initial.numbers l.numbers l.reader.place l.i;
    }
