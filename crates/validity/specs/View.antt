-- The state that a view shows. Assumes nothing.
use Rattle.validity.specs.declared.view.View.{View}
use Rattle.validity.specs.Memory.{State, state_of}

-- the record, and what stands in the memory
abbrev pub seen : View → State
seen v = state_of v.dataset v.distances.now v.settings.now
