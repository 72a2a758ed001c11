-- `write_study` meets its contract: what Write replies, at the text's end. Assumes nothing.
use Rattle.study_text.proofs.Writing.{write_ends}
use Rattle.study_text.proofs.write_study.Goals as goal

pub returns : goal.returns
returns c =
    let told = write_ends c.requires c.args.line c.write.result c.args.file.now c.at_line.ensures c.write.ensures.reply c.write.ensures.leaves in
    record { told = told.0; leaves = told.1 }
