-- `put_tide` meets its contract: the setting, and row t before the diagonal. Assumes nothing.
use native.Mathlib.Omega.{arith}
use mathlib.Core.Path.{refl}
use Rattle.closure_text.proofs.LineLaws.{row_long, tide_put}
use Rattle.closure_text.proofs.lines.put_tide.Goals as goal

pub returns : goal.returns
returns c =
    let a = c.args in
    let long = row_long a.n a.settings.now a.table.now a.t _ _ c.requires.printable_table c.requires.t_lt_n.0 refl refl in (
      omega (arith, c.put_line.ensures.0, long, c.requires.printable_table.fits.few),
      tide_put a.n a.settings.now a.table.now a.t _ _ c.requires.printable_table c.requires.t_lt_n.0 refl refl c.from.ensures c.put_line.ensures.1,
    )
