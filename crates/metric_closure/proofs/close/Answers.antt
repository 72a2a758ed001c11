-- What is refused stays as it was; what is accepted has at most 120 tides, room and distances in range, and is closed. Assumes nothing.
use mathlib.Core.Path.{sym}
use Rattle.std.proofs.lemmas.Result.{err_from_is_err_and}
use Rattle.metric_closure.proofs.TableLaws.{places_near}
use Rattle.metric_closure.proofs.CallLaws.{refused_so, closed_so}
use Rattle.metric_closure.proofs.Proofs.{for_call}
use Rattle.metric_closure.proofs.close.Goals as goal

pub returns-in_err-check-clause-answer : goal.returns-in_err-check-clause-answer
returns-in_err-check-clause-answer c =
    let p = err_from_is_err_and c.from_residual.result c.from_residual.ensures.1 in
    rw (p.1, p.2) (refused_so _ _ c.in_err-check.ensures).0

pub returns-in_err-check-clause-leaves : goal.returns-in_err-check-clause-leaves
returns-in_err-check-clause-leaves c = (refused_so _ _ c.in_err-check.ensures).1

pub close_counted-requires-clause-fits : goal.close_counted-requires-clause-fits
close_counted-requires-clause-fits c =
    let accepted = (for_call c.args.n c.args.table.now).exactly.0 (sym c.in_ok-check.ensures) in record { few = accepted.few; fits = accepted.fits }

pub close_counted-requires-clause-in_range : goal.close_counted-requires-clause-in_range
close_counted-requires-clause-in_range c =
    let accepted = (for_call c.args.n c.args.table.now).exactly.0 (sym c.in_ok-check.ensures) in places_near _ _ accepted.near

pub returns-clause-answer : goal.returns-clause-answer
returns-clause-answer c = (closed_so _ _ c.in_ok-check.ensures c.close_counted.ensures.value c.close_counted.ensures.table_after).0

pub returns-clause-leaves : goal.returns-clause-leaves
returns-clause-leaves c = (closed_so _ _ c.in_ok-check.ensures c.close_counted.ensures.value c.close_counted.ensures.table_after).1
