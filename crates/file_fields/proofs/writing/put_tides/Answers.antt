-- `put_tides` meets its contract: one tide more.
use Rattle.file_fields.proofs.PuttingLaws.{tide_room, tides_none, tides_more}
use Rattle.file_fields.proofs.writing.put_tides.Goals as goal

pub loop-t-init : goal.loop-t-init
loop-t-init c = tides_none _

pub put_tide-requires : goal.put_tide-requires
put_tide-requires c =
    tide_room c.requires c.loop-t.invariant c.loop-t.t c.loop-t-test.true (rw c.from-k.ensures at c.bit_length-start.ensures.0)

pub loop-t-preserved : goal.loop-t-preserved
loop-t-preserved c =
    tides_more _ _ _ c.loop-t.t c.loop-t.invariant (rw c.from-k.ensures at c.bit_length-start.ensures.0) c.put_tide.ensures
