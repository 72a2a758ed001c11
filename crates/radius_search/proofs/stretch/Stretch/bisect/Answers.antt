-- Bisection while the centres stay: no radius from start up to low has an assignment, and high has one; high - low falls. Assumes nothing.
use native.Mathlib.Omega.{arith}
use Rattle.lists.proofs.Tables.{tail_trans}
use Rattle.radius_search.proofs.AscentLaws.{bracket_yes, bracket_no, tried_some}
use mathlib.Core.Path.{◌∙◌}
use Rattle.radius_search.proofs.stretch.Stretch.bisect.Goals as goal

pub loop-low-preserved-then-assignable : goal.loop-low-preserved-then-assignable
loop-low-preserved-then-assignable c =
    let stretch = c.args.self.now in
    let i = c.loop-low.invariant in
    let u = i.0.up in
    let m = i.0.most in
    let tried = c.assignable.ensures in
    let some = tried_some stretch.valid (stretch.steady.stay _ (omega arith) (omega arith)) tried.radius_tried c.if-assignable.true in (
      bracket_yes (omega arith) (omega arith) i.0 some,
      tried.radius_tried.table.same_length ∙ i.1,
      tail_trans i.2 tried.tail_kept,
    )

pub loop-low-preserved : goal.loop-low-preserved
loop-low-preserved c =
    let stretch = c.args.self.now in
    let i = c.loop-low.invariant in
    let tried = c.assignable.ensures in (
      bracket_no stretch.valid stretch.steady (omega arith) (omega arith) i.0 (tried.radius_tried.none c.if-assignable.false),
      tried.radius_tried.table.same_length ∙ i.1,
      tail_trans i.2 tried.tail_kept,
    )
