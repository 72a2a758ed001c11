-- `put_run` meets its contract: the loop's invariant: the first i numbers are written.
use Rattle.std.proofs.Common.{ℕ, get_or, map}
use Rattle.lists.specs.Lists.{tabulate}
use Rattle.file_format.specs.Bits.{field}
use Rattle.file_fields.specs.Putting.{PutFields}
use Rattle.file_fields.proofs.writing.put_run.Given as goal

abbrev pub invariant-loop-i : goal.invariant-loop-i
invariant-loop-i l = PutFields l.initial.file l.start (map (field l.width) (tabulate l.i (λ (j : ℕ). get_or l.numbers j 0))) l.file
