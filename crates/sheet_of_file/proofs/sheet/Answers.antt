-- `sheet` meets its contract: a refused Read, and Block on what an accepted one leaves. Assumes nothing.
use mathlib.Core.Path.{ap, ◌∙◌}
use Rattle.sheet_text.specs.Text.{laid_out}
use Rattle.sheet_of_file.proofs.Laws.{long_enough, sheet_refused, sheet_blocked}
use Rattle.sheet_of_file.proofs.sheet.Goals as goal

pub returns-in-Err-clause-text : goal.returns-in-Err-clause-text
returns-in-Err-clause-text c =
    c.refused_sheet.ensures.1 ∙ ap laid_out (sheet_refused c.args.file.now _ (long_enough c.blank-dataset.result) c.read.ensures.answer c.in-Err.is)

pub returns-clause-text : goal.returns-clause-text
returns-clause-text c =
    c.blocked_sheet.ensures.1 ∙ ap laid_out
    (sheet_blocked c.args.file.now _ (long_enough c.blank-dataset.result) c.read.ensures.answer c.in_default.is c.read.ensures.leaves)
