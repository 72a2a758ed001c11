-- `sheet_text` meets its contract: what is put from the first byte on. Assumes nothing.
use Rattle.sheet_text.proofs.PuttingLaws.{puts_text}
use Rattle.sheet_text.proofs.sheet_text.Goals as goal

pub returns-clause-text : goal.returns-clause-text
returns-clause-text c =
    puts_text c.put_sheet-length.ensures.1
