-- `read_minima` meets its contract: too few numbers stop; with all of them, what Minima answers. Assumes nothing.
use native.Mathlib.Omega.{arith}
use mathlib.Core.Path.{ap, ◌∙◌}
use lib.Seq.{length-take-le}
use lib.ListN.{replicate}
use Prim.Native.Nat.{ℕ, ◌+◌}
use Rattle.lists.proofs.Results.{handed_on}
use Rattle.study_text.proofs.CallLaws.{minima_stops, minima_goes}
use Rattle.study_text.proofs.calls.read_minima.Goals as goal

pub returns-in_err-read_row : goal.returns-in_err-read_row
returns-in_err-read_row c =
    let places = length-take-le (c.from-n.result + 1) (replicate {A = ℕ} 9 0) (omega (arith, c.from-n.ensures, c.requires.held.study.k_high)) in
    minima_stops c.requires (places ∙ ap (λ k. k + 1) c.from-n.ensures) (handed_on c.from_residual.ensures.1) c.in_err-read_row.ensures

pub returns : goal.returns
returns c =
    let places = length-take-le (c.from-n.result + 1) (replicate {A = ℕ} 9 0) (omega (arith, c.from-n.ensures, c.requires.held.study.k_high)) in
    minima_goes c.requires (places ∙ ap (λ k. k + 1) c.from-n.ensures) c.set_minima-answer.result c.read_row.new.row (c.from-n.result + 1)
    c.in_ok-read_row.ensures c.minima_of.ensures (c.set_minima-answer.ensures.answer, c.set_minima-answer.ensures.leaves) c.at_line.ensures
