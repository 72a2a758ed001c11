-- The bytes in order. Assumes nothing.
use mathlib.Core.Path.{refl}
use Rattle.lists.specs.Lists.{tabulate}
use Rattle.c_records.specs.Record.{minima_at}
use Rattle.c_records.proofs.numbers.minima_of.Goals as goal

pub returns : goal.returns
unfolding minima_at tabulate
returns c = refl
