-- `put_run` meets its contract: one number more, and at the end all of them. The field of number i lies before the end of all.
use Rattle.std.proofs.Common.{arith, refl}
use Rattle.file_fields.proofs.PuttingLaws.{run_none, run_more, run_done}
use Rattle.file_fields.proofs.writing.put_run.Goals as goal

pub loop-i-init : goal.loop-i-init
loop-i-init c = run_none c.args.width _

pub loop-i-preserved : goal.loop-i-preserved
loop-i-preserved c = run_more c.args.width _ c.loop-i.i c.loop-i.invariant refl c.put_field.ensures

pub returns : goal.returns
returns c = run_done c.args.width c.args.numbers.now (omega arith) c.loop-i.invariant
