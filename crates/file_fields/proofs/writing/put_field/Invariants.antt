-- `put_field` meets its contract: the loop's invariant: the first bits of the value are written, `done` of them; the bits left
-- fall. Assumes nothing.
use Rattle.file_fields.specs.Writing.{Adds}
use Rattle.file_format.specs.Bits.{bits_of}
use Prim.Native.Nat.{◌-◌, ◌/◌, ◌^◌, ◌≤◌}
use Rattle.file_fields.proofs.writing.put_field.Given as goal

abbrev pub invariant-loop-done : goal.invariant-loop-done
invariant-loop-done l = (l.done ≤ l.width) × Adds l.initial.file l.at (bits_of l.done (l.value / 2 ^ (l.width - l.done))) l.file

abbrev pub decreases-loop-done : goal.decreases-loop-done
decreases-loop-done l = l.width - l.done
