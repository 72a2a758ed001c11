-- best is the greatest distance of t from a tide below u of its block. Assumes nothing.
use native.Mathlib.Omega.{arith}
use mathlib.Core.Path.{◌≡◌, sym, ◌∙◌}
use mathlib.Core.Bool.{cond}
use lib.Dec.{eqb, eqb→eq, not_T}
use Rattle.lists.proofs.Tests.{eq→eqb, cond_yes, cond_no}
use Rattle.blocking_core.specs.Measured.{farthest_of}
use Rattle.blocking_core.proofs.MeasuredLaws.{greatest_none, greatest_more}
use Rattle.radius_theory.specs.Arrays.{within}
use Rattle.radius_theory.proofs.ArrayLaws.{within_is}
use Rattle.study.specs.Problem.{labels}
use Rattle.blocking_core.proofs.measure.farthest.Goals as goal
use Rattle.blocking_core.proofs.measure.farthest.Goals.{then-list-u, else-list-u}

pub loop-u-init : goal.loop-u-init
unfolding farthest_of
loop-u-init c = greatest_none _

pub loop-u-preserved : goal.loop-u-preserved
unfolding labels farthest_of
loop-u-preserved c =
    let d = c.args.study.now.distances.now in
    let n = c.args.study.now.tides.n in
    let u = c.loop-u.u in
    let t = c.args.t in
    let in_table = within_is d n u t (omega arith) c.requires.1 in
    let same = eqb (labels c.args.list.now u) (labels c.args.list.now t) in
    let inside_is : c.if-list-u.inside ≡ cond same (within d n u t) 0 =
    elim c.if-list-u.branch [
      | then-list-u w ↦ w.inside-is ∙ c.distance-away.ensures ∙ sym (cond_yes same (within d n u t) 0 (eq→eqb _ _ w.if-list-u.true) ∙ in_table)
      | else-list-u w ↦ w.inside-is ∙ sym (cond_no same (within d n u t) 0 (not_T same (λ h. w.if-list-u.false (eqb→eq _ _ h))))
    ]
    in
    greatest_more _ c.loop-u.invariant inside_is c.max-best.ensures
