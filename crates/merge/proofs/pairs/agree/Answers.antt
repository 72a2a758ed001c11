-- `agree` meets its contract: the pairs passed so far agree. Assumes nothing.
use native.Mathlib.Omega.{arith}
use Rattle.lists.proofs.Scans.{every_none, every_more, test_passes, test_fails}
use Rattle.merge.proofs.SourceLaws.{agree_other_k, agree_lengths, agree_not, agree_every, named_by}
use Rattle.std.proofs.lemmas.Bool.{not_from_false, not_from_true}
use Rattle.merge.proofs.pairs.agree.Goals as goal

pub returns-then-sources : goal.returns-then-sources
returns-then-sources c = agree_other_k _ _ _ _ c.if-sources.true

pub returns-then-sources-m : goal.returns-then-sources-m
returns-then-sources-m c = agree_lengths _ _ _ _ c.if-sources-m.true

pub loop-q-init : goal.loop-q-init
loop-q-init c = every_none _

pub pair_agrees-requires-clause-named : goal.pair_agrees-requires-clause-named
pair_agrees-requires-clause-named c =
    let pre = c.requires in
    named_by _ _ _ _ pre.0 pre.1 (omega arith) (omega (arith, c.if-sources-m.false)) c.loop-q.invariant

pub returns-then-not-pair_agrees : goal.returns-then-not-pair_agrees
returns-then-not-pair_agrees c =
    agree_not _ _ _ _ c.if-sources-m.false _ (omega arith) (test_fails c.pair_agrees.ensures (not_from_false _ c.if-not-pair_agrees.true))

pub loop-q-preserved : goal.loop-q-preserved
loop-q-preserved c =
    every_more _ _ c.loop-q.invariant (test_passes c.pair_agrees.ensures (not_from_true _ c.if-not-pair_agrees.false))

pub returns : goal.returns
returns c =
    agree_every _ _ _ _ c.if-sources-m.false c.if-sources.false _ (omega arith) (omega arith) c.loop-q.invariant
