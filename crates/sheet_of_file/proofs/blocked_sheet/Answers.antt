-- `blocked_sheet` meets its contract: the text of what Block answers. Assumes nothing.
use mathlib.Core.Path.{refl, ap, ◌∙◌}
use Rattle.validity.specs.View.{seen}
use Rattle.sheet_text.specs.Text.{laid_out}
use Rattle.sheet_of_file.proofs.Laws.{blocked_text_lem}
use Rattle.sheet_of_file.proofs.blocked_sheet.Goals as goal

pub returns : goal.returns
returns c =
    let told = c.block_by_value-answer.ensures in (
      c.sheet_text.ensures.fits,
      c.sheet_text.ensures.text ∙ ap laid_out (blocked_text_lem (seen c.args.view) c.block_by_value-answer.result.answer refl told.answer told.records),
    )
