-- One radius: the table of allowed pairs is that of the radius, so what the search promises of the table it promises of the radius. There
-- is no loop. Assumes nothing.
use Rattle.radius_search.proofs.AscentLaws.{tried}
use Rattle.radius_search.proofs.stretch.Stretch.assignable.Goals as goal

pub returns-clause-radius_tried : goal.returns-clause-radius_tried
returns-clause-radius_tried c =
    let stretch = c.args.self.now in
    let within = c.requires.within in
    tried stretch.valid (stretch.steady.stay _ within.0 within.1) c.allow.ensures c.search.ensures
