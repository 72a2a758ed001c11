-- What a turn read stands after what was read before.
use Rattle.std.proofs.Common.{rules, ◌∙◌}
use Rattle.reading.proofs.Filling.{Consumes-further}
use Rattle.reading.proofs.read_full.Goals as goal

pub loop-done-preserved : goal.loop-done-preserved
loop-done-preserved g c =
    let read = c.in_ok-n.ensures in
    let before = c.loop-done.invariant in (
      read.length ∙ before.0,
      read.fits,
      Consumes-further _ _ _ c.loop-done.bytes c.read_after.new.bytes c.loop-done.done c.in_ok-n.n
          (search rules) read.front before.2 read.read,
    )
