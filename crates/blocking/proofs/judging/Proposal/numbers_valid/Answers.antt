-- Each of the first n numbers is valid. Assumes nothing.
use mathlib.Core.Path.{◌∙◌}
use borrow.Author.Tests.{tests}
use lib.ListN.{take}
use Rattle.std.proofs.Common.{rules}
use Rattle.std.proofs.lemmas.Iterator.{YieldsList-from_slice}
use Rattle.std.proofs.lemmas.Iterator.Search.{all_from_yields_List}
use Rattle.blocking.proofs.ScanLaws.{every_all}
use Rattle.lists.specs.Lists.{between}
use Rattle.study.specs.Problem.{labels}
use Rattle.blocking.proofs.judging.Proposal.numbers_valid.Goals as goal

pub returns : goal.returns
unfolding labels
returns c =
    let xs = c.args.self.now.list.now in
    let n = c.args.self.now.study.tides.n in
    let test = between 1 255 in
    let found = all_from_yields_List test _ _ c.all.result c.all.ensures.ran (YieldsList-from_slice (take n xs) cc) (λ x b q k. search (rules, tests)) in
    found ∙ every_all test n xs c.args.self.now.long
