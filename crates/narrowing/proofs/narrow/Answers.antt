-- `narrow` meets its contract: a byte, or too great for one. Assumes nothing.
use Rattle.std.proofs.Common.{arith}
use Rattle.std.proofs.lemmas.Bool.Decides.{nat_tests}
use Rattle.narrowing.specs.Narrowing.{narrowed}
use Rattle.narrowing.proofs.narrow.Goals as goal

pub returns : goal.returns
unfolding narrowed
returns c = grind (arith, nat_tests)
