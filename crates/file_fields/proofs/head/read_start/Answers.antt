-- `read_start` meets its contract: 6 bytes hold the mark, and each way out has one law.
use native.Mathlib.Omega.{arith}
use Rattle.file_fields.proofs.HeadLaws.{start_stops, start_short, start_mark, start_twelve, marked_old, marked_new}
use Rattle.file_fields.proofs.head.read_start.Goals as goal

pub returns-then-reader-lt6-clause-got : goal.returns-then-reader-lt6-clause-got
returns-then-reader-lt6-clause-got c = start_stops (start_short c.args.reader.now.bytes.now c.if-reader-lt6.true)

pub returns-in_default : goal.returns-in_default
returns-in_default c = absurd (omega (arith, (c.take.ensures.step 0 c.requires).field.ends c.in_default.is))

pub read_counts-requires : goal.read_counts-requires
read_counts-requires c =
    let mark = c.take.ensures.step 0 c.requires in
    rw c.take.ensures.same (marked_old c.if-reader-lt6.false (mark.field.got c.in-Some.is) mark.past c.if-mark-eq84.true)

pub returns-then-mark-ne85-clause-got : goal.returns-then-mark-ne85-clause-got
returns-then-mark-ne85-clause-got c =
    let mark = c.take.ensures.step 0 c.requires in
    start_stops (start_mark c.if-reader-lt6.false (mark.field.got c.in-Some.is) c.if-mark-eq84.false c.if-mark-ne85.true)

pub returns-then-reader-lt12-clause-got : goal.returns-then-reader-lt12-clause-got
returns-then-reader-lt12-clause-got c =
    let mark = c.take.ensures.step 0 c.requires in
    start_stops
    (start_twelve c.if-reader-lt6.false (mark.field.got c.in-Some.is) c.if-mark-ne85.false (rw c.take.ensures.same at c.if-reader-lt12.true))

pub read_counts-requires-2 : goal.read_counts-requires-2
read_counts-requires-2 c =
    let mark = c.take.ensures.step 0 c.requires in
    let long = rw c.take.ensures.same at c.if-reader-lt12.false in
    rw c.take.ensures.same (marked_new c.if-reader-lt6.false (mark.field.got c.in-Some.is) c.if-mark-ne85.false mark.past long)
