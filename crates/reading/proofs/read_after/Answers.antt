-- What `read` put into the part stands after the front.
use Rattle.std.proofs.Common.{arith, length-take-le}
use borrow.Rule.Slice.PartMut.{take_put}
use Rattle.reading.proofs.Filling.{Consumes-in_place}
use Rattle.reading.proofs.read_after.Goals as goal

pub returns-clause-front : goal.returns-clause-front
returns-clause-front g c = take_put _ _ c.args.bytes.now _ (omega (arith, c.requires))

pub returns-clause-read : goal.returns-clause-read
returns-clause-read g c =
    Consumes-in_place _ _ c.read.result _ c.read.new.buf _ c.args.done
    (length-take-le _ c.args.bytes.now (omega (arith, c.requires))) c.read.ensures.bound c.read.ensures.bytes
