-- `close_table` meets its contract: the way may go by the tides passed so far. Assumes nothing.
use native.Mathlib.Omega.{arith}
use Rattle.metric_closure.proofs.TableLaws.{closing_none, closing_more, closing_near, closing_done}
use Rattle.metric_closure.proofs.lowering.close_table.Goals as goal

pub loop-m-init : goal.loop-m-init
loop-m-init c = closing_none

pub lower_by-requires-clause-in_range : goal.lower_by-requires-clause-in_range
lower_by-requires-clause-in_range c = closing_near c.loop-m.invariant c.requires.in_range

pub loop-m-preserved : goal.loop-m-preserved
loop-m-preserved c = closing_more (omega arith) c.loop-m.invariant c.lower_by.ensures

pub returns : goal.returns
returns c = closing_done (omega arith) c.requires.fits c.loop-m.invariant
