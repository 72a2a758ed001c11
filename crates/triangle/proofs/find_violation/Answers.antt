-- `find_violation` meets its contract: each turn's test tells whether the pair comes first among the violations still to come. Assumes
-- nothing.
use Rattle.std.proofs.Common.{sym, refl, ap, ◌∙◌, arith}
use Rattle.triangle.specs.Pairs.{violation_of}
use Rattle.triangle.proofs.PairLaws.{violation_starts, violation_enters, violation_passes}
use Rattle.triangle.proofs.PairLaws.{violation_finds, violation_leaves, violation_ends}
use Rattle.triangle.proofs.find_violation.Goals as goal

pub search-init : goal.search-init
search-init c = (refl, violation_starts _ _)

pub loop-j-init : goal.loop-j-init
loop-j-init c = (c.search.invariant.0, c.search.invariant.1 ∙ violation_enters _ _ _ (omega arith))

pub loop-j-preserved : goal.loop-j-preserved
loop-j-preserved c = (
  c.loop-j.invariant.0,
  c.loop-j.invariant.1 ∙ violation_passes _ _ _ _ (omega arith)
      (sym c.violates.ensures ∙ c.if-violates.false),
)

pub search-preserved : goal.search-preserved
search-preserved c = (c.loop-j.invariant.0, c.loop-j.invariant.1 ∙ violation_leaves _ _ _ _ (omega arith))

pub returns-after-search : goal.returns-after-search
returns-after-search c = c.search.invariant.0 ∙ violation_ends _ _ _ (omega arith) ∙ ap violation_of (sym c.search.invariant.1)

pub returns-then-violates : goal.returns-then-violates
returns-then-violates c =
    violation_finds _ _ _ _ (omega arith) (sym c.violates.ensures ∙ c.if-violates.true) ∙ ap violation_of (sym c.loop-j.invariant.1)
