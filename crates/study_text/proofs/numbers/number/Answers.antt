-- `number` meets its contract: each word is a number or stops. Assumes nothing.
use mathlib.Core.Path.{refl, ap}
use Rattle.std.specs.Prelude.{Ok}
use Rattle.std.proofs.lemmas.Result.{err_from_is_err_and}
use Rattle.study_text.proofs.StepLaws.{number_is, number_stops}
use Rattle.study_text.proofs.numbers.number.Goals as goal

pub returns-in_err-word : goal.returns-in_err-word
returns-in_err-word c =
    let p = err_from_is_err_and c.from_residual.result c.from_residual.ensures.1 in rw p.1 (number_stops p.0 _ _ p.2 c.in_err-word.ensures)

pub returns-in-Number : goal.returns-in-Number
returns-in-Number c = number_is _ _ c.in_ok-word.ensures (ap Ok c.in-Number.is) refl

pub returns-in-End : goal.returns-in-End
returns-in-End c = number_is _ _ c.in_ok-word.ensures (ap Ok c.in-End.is) refl
