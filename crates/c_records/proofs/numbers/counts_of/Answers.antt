-- The counts in order. Assumes nothing.
use mathlib.Core.Path.{refl}
use Rattle.lists.specs.Lists.{tabulate}
use Rattle.c_records.proofs.numbers.counts_of.Goals as goal

pub returns : goal.returns
unfolding tabulate
returns c = refl
