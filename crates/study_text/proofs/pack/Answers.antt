-- `pack` meets its contract: too long, or what the text comes to. Assumes nothing.
use mathlib.Core.Path.{refl, ap}
use lib.ListN.{length}
use Rattle.lists.proofs.Results.{handed_on}
use Rattle.study_text.specs.Packing.{report_of}
use Rattle.study_text.proofs.Writing.{pack_long, pack_long_leaves, pack_told, pack_left}
use Rattle.study_text.proofs.pack.Goals as goal

pub returns-then-text-gt-MAX_TEXT : goal.returns-then-text-gt-MAX_TEXT
returns-then-text-gt-MAX_TEXT c =
    record {
      told = pack_long c.args.text.now (length c.args.file.now) c.if-text-gt-MAX_TEXT.true c.whole_lines.ensures;
      leaves = pack_long_leaves c.args.text.now c.args.file.now c.if-text-gt-MAX_TEXT.true;
    }

-- something stops the text
pub returns-in_err-end : goal.returns-in_err-end
returns-in_err-end c =
    let stopped = c.in_err-end.ensures.stops refl in
    record {
      told = pack_told c.args.text.now stopped c.if-text-gt-MAX_TEXT.false (length c.args.file.now) (ap report_of (handed_on c.from_residual.ensures.1));
      leaves = pack_left c.args.text.now stopped c.if-text-gt-MAX_TEXT.false c.args.file.now refl;
    }

pub write_study-requires : goal.write_study-requires
write_study-requires c = (c.in_ok-end.ensures.ends refl).0

pub returns : goal.returns
returns c =
    let ended = (c.in_ok-end.ensures.ends refl).1 in
    record {
      told = pack_told c.args.text.now ended c.if-text-gt-MAX_TEXT.false (length c.args.file.now) c.write_study.ensures.told;
      leaves = pack_left c.args.text.now ended c.if-text-gt-MAX_TEXT.false c.args.file.now c.write_study.ensures.leaves;
    }
