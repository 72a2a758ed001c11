-- The stores are what `freed` says, by whether the slot held a tide. Assumes nothing.
use mathlib.Core.Path.{sym}
use Rattle.matching.proofs.Shift.{freed_yes, freed_no}
use Rattle.matching.proofs.pairs.Pairs.give.Goals as goal

pub returns-then-o-tides-clause-slot_after : goal.returns-then-o-tides-clause-slot_after
returns-then-o-tides-clause-slot_after c = sym (freed_no _ _ _ _ _ c.if-o-tides.true)

pub returns-clause-slot_after : goal.returns-clause-slot_after
returns-clause-slot_after c = sym (freed_yes _ _ _ _ _ c.if-o-tides.false)
