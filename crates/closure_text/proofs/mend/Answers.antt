-- `mend` meets its contract: too long, or what the text comes to. Assumes nothing.
use mathlib.Core.Path.{refl, ap}
use Rattle.lists.proofs.Results.{handed_on}
use Rattle.study_text.specs.Packing.{report_of}
use Rattle.closure_text.proofs.ClosedLaws.{mend_long, mend_read}
use Rattle.closure_text.proofs.mend.Goals as goal

pub returns-then-text-gt-TEXT_ROOM : goal.returns-then-text-gt-TEXT_ROOM
returns-then-text-gt-TEXT_ROOM c =
    let told = mend_long c.args.text.now c.args.out.now c.if-text-gt-TEXT_ROOM.true c.whole_lines.ensures in
    record { told = told.0; leaves = told.1 }

-- something stops the text
pub returns-in_err-end : goal.returns-in_err-end
returns-in_err-end c =
    let stopped = c.in_err-end.ensures.stops refl in
    let told =
    mend_read c.args.text.now stopped c.if-text-gt-TEXT_ROOM.false c.args.out.now (ap report_of (handed_on c.from_residual.ensures.1), refl) in
    record { told = told.0; leaves = told.1 }

pub write_closure-requires : goal.write_closure-requires
write_closure-requires c = (c.in_ok-end.ensures.ends refl).0

pub returns : goal.returns
returns c =
    let ended = (c.in_ok-end.ensures.ends refl).1 in
    let told =
    mend_read c.args.text.now ended c.if-text-gt-TEXT_ROOM.false c.args.out.now (c.write_closure.ensures.told, c.write_closure.ensures.leaves) in
    record { told = told.0; leaves = told.1 }
