-- `read_record` meets its contract: its fields are inside the file, so none is cut off, and each gives its part of the record. Assumes nothing.
use Prim.Native.Nat.{ℕ, ◌+◌, ◌*◌, ◌<◌}
use native.Mathlib.Omega.{arith}
use mathlib.Core.Path.{◌≡◌, sym, ◌∙◌}
use lib.ListN.{length, get_or}
use borrow.Author.Rules.{rules}
use lib.Seq.{ext_get_or}
use Rattle.std.proofs.iter.Serving.{serving}
use Rattle.bit_reader.proofs.FieldLaws.{field_small}
use Rattle.file_fields.proofs.AdvanceLaws.{never_err, same_ok}
use Rattle.file_fields.proofs.TakingLaws.{run_small}
use Rattle.file_fields.proofs.HeadLaws.{few_counts, counts_read, minima_read, record_read}
use Rattle.file_fields.proofs.head.read_record.Goals as goal

pub returns-in_default : goal.returns-in_default
returns-in_default c = absurd (omega (arith, c.requires.inside, (c.take.ensures.step 19 c.requires.here).field.ends c.in_default.is))

pub take_numbers-requires : goal.take_numbers-requires
take_numbers-requires c =
    let b0 = c.take.ensures.step 19 c.requires.here in
    let few = few_counts c.requires.begun.marked in (
      omega arith,
      rw c.take.ensures.same (record {
        start = 26;
        here = b0.past;
        inside = omega (arith, c.requires.inside);
        low = omega arith;
        wide = omega arith;
        narrow = omega arith;
        fits = few;
      }),
    )

pub returns-in_default-take_numbers : goal.returns-in_default-take_numbers
returns-in_default-take_numbers c =
    let b0 = c.take.ensures.step 19 c.requires.here in
    absurd (never_err (sym (c.take_numbers.ensures.run 26 b0.past).is ∙ c.in_default-take_numbers.is))

pub take_numbers-requires-2 : goal.take_numbers-requires-2
take_numbers-requires-2 c =
    let b0 = c.take.ensures.step 19 c.requires.here in
    let few = few_counts c.requires.begun.marked in
    let counts = c.take_numbers.ensures.run 26 b0.past in (
      omega arith,
      rw (c.take_numbers.ensures.same ∙ c.take.ensures.same) (record {
        start = 26 + 16 * c.args.start.counts;
        here = counts.here;
        inside = c.requires.inside;
        low = omega (arith, c.requires.begun.high);
        wide = omega arith;
        narrow = omega arith;
        fits = c.requires.begun.high;
      }),
    )

pub returns-in_default-take_numbers-2 : goal.returns-in_default-take_numbers-2
returns-in_default-take_numbers-2 c =
    let b0 = c.take.ensures.step 19 c.requires.here in
    let counts = c.take_numbers.ensures.run 26 b0.past in
    absurd (never_err (sym (c.take_numbers-2.ensures.run (26 + 16 * c.args.start.counts) counts.here).is ∙ c.in_default-take_numbers-2.is))

pub overflow_cast-result-2 : goal.overflow_cast-result-2
overflow_cast-result-2 c = omega (arith, field_small ((c.take.ensures.step 19 c.requires.here).field.got c.in-Some.is))

-- a number of 7 bits fits a byte
in_byte : {x : ℕ} → x < 128 → x < 256
in_byte l = omega arith

pub from_fn-requires : goal.from_fn-requires
from_fn-requires c =
    let b0 = c.take.ensures.step 19 c.requires.here in
    let counts = c.take_numbers.ensures.run 26 b0.past in
    let minima = c.take_numbers-2.ensures.run (26 + 16 * c.args.start.counts) counts.here in
    let small : (i : ℕ) → get_or c.in-Ok-take_numbers.minima i 0 < 256 = λ i.
    rw (same_ok (sym c.in-Ok-take_numbers.is ∙ minima.is)) (in_byte (run_small _ (26 + 16 * c.args.start.counts) 7 c.args.start.k 8 i)) in
    (omega arith, grind (serving, small))

pub from_fn-requires-2 : goal.from_fn-requires-2
from_fn-requires-2 c =
    let b0 = c.take.ensures.step 19 c.requires.here in
    let counts = c.take_numbers.ensures.run 26 b0.past in
    let small : (i : ℕ) → get_or c.in-Ok.counts i 0 < 65536 = λ i.
    rw (same_ok (sym c.in-Ok.is ∙ counts.is)) (run_small _ 26 16 c.args.start.counts 4 i) in
    (omega arith, grind (serving, small))

pub returns-clause-read : goal.returns-clause-read
returns-clause-read c =
    let s = c.args.reader.now.bytes.now in
    let b0 = c.take.ensures.step 19 c.requires.here in
    let counts = rw c.take.ensures.same at c.take_numbers.ensures.run 26 b0.past in
    let minima = rw (c.take_numbers.ensures.same ∙ c.take.ensures.same) at c.take_numbers-2.ensures.run (26 + 16 * c.args.start.counts) counts.here in
    let four : length c.in-Ok.counts ≡ 4 = search rules in
    let eight : length c.in-Ok-take_numbers.minima ≡ 8 = search rules in
    let withdrawn : c.from_fn-2.result ≡ c.in-Ok.counts =
    ext_get_or 0 _ _ (c.from_fn-2.ensures.items.long ∙ sym four) (λ i l.
    let called = c.from_fn-2.ensures.items.at i 0 (omega (arith, c.from_fn-2.ensures.items.long)) in search rules) in
    let b : c.from_fn.result ≡ c.in-Ok-take_numbers.minima =
    ext_get_or 0 _ _ (c.from_fn.ensures.items.long ∙ sym eight) (λ i l.
    let called = c.from_fn.ensures.items.at i 0 (omega (arith, c.from_fn.ensures.items.long)) in search rules) in
    let counted = c.requires.begun.marked.counts in
    record_read c.requires
    (counts_read s counted (withdrawn ∙ same_ok (sym c.in-Ok.is ∙ counts.is)))
    (minima_read s c.args.start.k (b0.field.got c.in-Some.is).is (b ∙ same_ok (sym c.in-Ok-take_numbers.is ∙ rw counted at minima.is)))
    (rw counted at minima.here)
