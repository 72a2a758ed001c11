-- The tides under each of the first n numbers meet the minima. Assumes nothing.
use Prim.Native.Nat.{ℕ}
use mathlib.Core.Path.{◌∙◌}
use borrow.Author.Tests.{tests}
use lib.ListN.{take}
use Rattle.std.proofs.Common.{rules}
use Rattle.std.proofs.lemmas.Iterator.{YieldsList-from_slice}
use Rattle.std.proofs.lemmas.Iterator.Search.{all_from_yields_List}
use Rattle.study.specs.Problem.{block, labels}
use Rattle.promise.specs.Met.{met}
use Rattle.blocking.proofs.ScanLaws.{every_all}
use Rattle.blocking.proofs.judging.Proposal.blocks_meet.Goals as goal

pub returns : goal.returns
unfolding labels
returns c =
    let xs = c.args.self.now.list.now in
    let tides = c.args.self.now.study.tides in
    let test = λ (number : ℕ). met tides (block (labels xs) number) in
    let found = all_from_yields_List test _ _ c.all.result c.all.ensures.ran (YieldsList-from_slice (take tides.n xs) cc) (λ x b q k. search (rules, tests)) in
    found ∙ every_all test tides.n xs c.args.self.now.long
