-- The radii up to limit: none where the search fails at limit - 1, since while the centres stay a greater radius only allows more; else
-- the least that bisection finds, tried once more for its table and list. There is no loop. Assumes nothing.
use native.Mathlib.Omega.{arith}
use mathlib.Core.Path.{refl, ◌∙◌}
use Rattle.radius_search.proofs.AscentLaws.{tried_some, ascent_none, ascent_found}
use Rattle.radius_search.proofs.stretch.Stretch.ascend.Goals as goal

pub returns-then-not-assignable-clause-ascent : goal.returns-then-not-assignable-clause-ascent
returns-then-not-assignable-clause-ascent c =
    let stretch = c.args.self.now in
    let pre = c.requires in
    ascent_none stretch.valid stretch.tides stretch.steady pre.lowest stretch.order pre.ahead c.assignable.ensures.radius_tried
    c.if-not-assignable.true refl

pub bisect-g-requires-clause-some : goal.bisect-g-requires-clause-some
bisect-g-requires-clause-some c =
    let stretch = c.args.self.now in
    let order = stretch.order in
    tried_some stretch.valid (stretch.steady.stay _ (omega arith) (omega arith)) c.assignable.ensures.radius_tried c.if-not-assignable.false

pub returns-clause-ascent : goal.returns-clause-ascent
returns-clause-ascent c =
    let stretch = c.args.self.now in
    let least = c.bisect-g.ensures in
    let same = least.allowed_len_unchanged ∙ c.assignable.ensures.radius_tried.table.same_length in
    ascent_found stretch.valid stretch.tides stretch.steady c.requires.lowest least.bisected c.assignable-2.ensures.radius_tried same
