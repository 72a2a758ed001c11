-- The numbers in their places; a number of 16 bits fits 32, and n. Assumes nothing.
use Rattle.std.proofs.Common.{ap, ◌∙◌}
use Rattle.narrowing.specs.Narrowing.{narrowed}
use Rattle.c_records.proofs.RecordLaws.{narrow_read}
use Rattle.c_records.proofs.numbers.dataset_of.Goals as goal

pub returns : goal.returns
returns c =
    narrow_read _ (c.narrow.ensures ∙ ap narrowed c.from.ensures) c.from-2.ensures c.minima_bytes-bytes.ensures c.minima_of-minima.ensures
    c.counts_of-withdrawn.ensures
