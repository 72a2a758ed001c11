-- The words are those of the fault.
use Rattle.join.proofs.say_fault.Goals as goal

pub returns-in-TooMany : goal.returns-in-TooMany
returns-in-TooMany g c = rw c.in-TooMany.is c.say-in-TooMany.ensures
