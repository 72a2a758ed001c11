-- `put_sheet` meets its contract: the refusal, or heading, lines and closing line. Assumes nothing.
use native.Mathlib.Omega.{arith}
use Rattle.sheet_text.specs.Text.{heading}
use Rattle.sheet_text.proofs.LineLaws.{sheet_done}
use Rattle.sheet_text.proofs.put_sheet.Goals as goal

pub returns-in-Ok : goal.returns-in-Ok
unfolding heading
returns-in-Ok c =
    let a = c.args in
    let put = c.put_bytes-after_heading.ensures in
    (omega arith, sheet_done a.records a.withdrawn c.in-Ok.is put c.put_lines-after_lines.ensures.1 c.put_closing.ensures.1)
