-- `put_bytes` meets its contract: the text is copied into its place. Assumes nothing.
use mathlib.Core.Path.{refl}
use Rattle.sheet_text.proofs.PuttingLaws.{puts_part}
use Rattle.sheet_text.proofs.putting.put_bytes.Goals as goal

pub returns : goal.returns
returns c = puts_part refl c.requires c.copy_from_slice.ensures.after
