-- `read_tides` meets its contract: one tide more, or the answer of the one that is refused.
use mathlib.Core.Path.{refl, ◌∙◌}
use native.Mathlib.Omega.{arith}
use Rattle.file_fields.proofs.RowLaws.{tides_stop, tides_go, reached_all}
use Rattle.file_fields.proofs.tides.read_tides.Goals as goal

pub loop-t-init : goal.loop-t-init
loop-t-init c = record { same = refl; read = c.requires.2 }

pub read_tide-tide-requires : goal.read_tide-tide-requires
read_tide-tide-requires c = rw c.loop-t.invariant.same (c.requires.0, omega (arith, c.requires.1), c.loop-t.invariant.read)

pub returns-in_default : goal.returns-in_default
returns-in_default c = tides_stop (rw c.loop-t.invariant.same at c.read_tide-tide.ensures.read) c.in_default.is

pub loop-t-preserved : goal.loop-t-preserved
loop-t-preserved c =
    record {
      same = c.read_tide-tide.ensures.same ∙ c.loop-t.invariant.same;
      read = tides_go (rw c.loop-t.invariant.same at c.read_tide-tide.ensures.read) c.in-Ok.is;
    }

pub returns : goal.returns
returns c = reached_all (omega arith) c.loop-t.invariant.read
