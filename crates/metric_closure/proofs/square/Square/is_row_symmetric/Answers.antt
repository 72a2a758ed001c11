-- The tides passed so far are as far both ways. Assumes nothing.
use native.Mathlib.Omega.{arith}
use mathlib.Core.Path.{sym, ◌∙◌}
use borrow.Author.Tests.{eq-eqb, ne_eqb}
use Rattle.lists.proofs.Scans.{every_none, every_more, every_fails}
use Rattle.metric_closure.proofs.TableLaws.{row_fails, row_decides}
use Rattle.metric_closure.proofs.square.Square.is_row_symmetric.Goals as goal

pub loop-j-init : goal.loop-j-init
loop-j-init c = every_none _

pub returns-then-distance : goal.returns-then-distance
returns-then-distance c =
    let there = c.distance.ensures in
    let back = c.distance-in-loop-j.ensures in
    row_fails _ _ _ (every_fails _ _ _ c.loop-j-test.true (ne_eqb _ _ (λ e. c.if-distance.true (there ∙ e ∙ sym back))))

pub loop-j-preserved : goal.loop-j-preserved
loop-j-preserved c =
    every_more _ _ c.loop-j.invariant (eq-eqb _ _ (sym c.distance.ensures ∙ c.if-distance.false ∙ c.distance-in-loop-j.ensures))

pub returns : goal.returns
returns c = row_decides _ _ _ c.loop-j.auto.j-end (omega arith) c.loop-j.invariant c.distance-2.ensures
