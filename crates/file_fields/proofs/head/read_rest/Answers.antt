-- `read_rest` meets its contract: the tests stand in the order of the reasons, and each way out has one law: what the tests before it told
-- (`whole`: the length, `sound`: the minima), and the test that it is. Assumes nothing.
use Rattle.file_fields.proofs.HeadLaws.{few_counts, head_length, whole, record_begins, record_got, head_minima, sound, head_fill}
use Rattle.file_fields.proofs.HeadLaws.{head_done, head_stops, head_goes}
use Rattle.std.proofs.lemmas.Bool.{not_from_false, not_from_true}
use Rattle.file_fields.proofs.head.read_rest.Goals as goal

pub bit_length-bits-requires : goal.bit_length-bits-requires
bit_length-bits-requires c = let begun = c.requires.0 in (few_counts begun.marked, begun.high, begun.few)

pub returns-then-not-has_length-clause-got : goal.returns-then-not-has_length-clause-got
returns-then-not-has_length-clause-got c =
    head_stops (head_length c.requires.0 c.bit_length-bits.ensures.0 c.has_length.ensures (not_from_false _ c.if-not-has_length.true))

pub read_record-requires : goal.read_record-requires
read_record-requires c =
    let whole_file = whole c.requires.0 c.bit_length-bits.ensures.0 c.has_length.ensures (not_from_true _ c.if-not-has_length.false) in
    record_begins whole_file c.requires.1

pub returns-then-not-valid_minima-clause-got : goal.returns-then-not-valid_minima-clause-got
returns-then-not-valid_minima-clause-got c =
    let whole_file = whole c.requires.0 c.bit_length-bits.ensures.0 c.has_length.ensures (not_from_true _ c.if-not-has_length.false) in
    let got = record_got c.read_record.ensures.read c.in_ok-dataset.was in
    head_stops (head_minima whole_file got c.valid_minima.ensures (not_from_false _ c.if-not-valid_minima.true))

pub returns-then-not-filled-clause-got : goal.returns-then-not-filled-clause-got
returns-then-not-filled-clause-got c =
    let whole_file = whole c.requires.0 c.bit_length-bits.ensures.0 c.has_length.ensures (not_from_true _ c.if-not-has_length.false) in
    let got = record_got c.read_record.ensures.read c.in_ok-dataset.was in
    let sound_head = sound whole_file got c.valid_minima.ensures (not_from_true _ c.if-not-valid_minima.false) in
    let fill = rw c.read_record.ensures.same at c.filled.ensures in
    head_stops (head_fill sound_head c.bit_length-bits.ensures.0 fill (not_from_false _ c.if-not-filled.true))

pub returns-clause-got : goal.returns-clause-got
returns-clause-got c =
    let whole_file = whole c.requires.0 c.bit_length-bits.ensures.0 c.has_length.ensures (not_from_true _ c.if-not-has_length.false) in
    let got = record_got c.read_record.ensures.read c.in_ok-dataset.was in
    let sound_head = sound whole_file got c.valid_minima.ensures (not_from_true _ c.if-not-valid_minima.false) in
    let fill = rw c.read_record.ensures.same at c.filled.ensures in
    head_goes (head_done sound_head c.bit_length-bits.ensures.0 fill (not_from_true _ c.if-not-filled.false)) got
