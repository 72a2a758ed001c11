-- `put_tides` meets its contract: the loop's invariant: the first t tides are written.
use Rattle.file_fields.specs.Putting.{PutFields}
use Rattle.validity.specs.Memory.{tide_of}
use Rattle.validity.specs.View.{seen}
use Rattle.file_format.specs.File.{tide_fields, bit_length}
use Rattle.lists.specs.Lists.{tabulate}
use mathlib.Core.List.{flat_map}
use Rattle.file_fields.proofs.writing.put_tides.Given as goal

abbrev pub invariant-loop-t : goal.invariant-loop-t
invariant-loop-t l =
    PutFields l.initial.file (bit_length 4 l.view.dataset.k 0) (flat_map tide_fields (tabulate l.t (tide_of (seen l.view)))) l.file
