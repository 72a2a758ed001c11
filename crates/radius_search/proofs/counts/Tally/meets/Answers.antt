-- The counts of the first j settings meet their minima. Assumes nothing.
use native.Mathlib.Omega.{arith}
use Prim.Native.Nat.{◌+◌}
use lib.ListN.{get_or}
use borrow.Author.Tests.{le-leb, lt-leb}
use Rattle.lists.proofs.Scans.{every_none, every_more, every_fails, every_done}
use Rattle.radius_search.specs.Tally.{enough, met}
use Rattle.radius_search.proofs.counts.Tally.meets.Goals as goal

pub returns-then-self-from : goal.returns-then-self-from
unfolding met
returns-then-self-from c = let e = c.from.ensures in rw (lt-leb c.args.minima.b0 c.args.self.now.found (omega arith))

pub loop-j-init : goal.loop-j-init
loop-j-init c = every_none _

pub returns-then-self-j : goal.returns-then-self-j
unfolding met
returns-then-self-j c =
    let args = c.args in
    let b = args.minima.b in
    let counts = args.self.now.by_setting in
    let j = c.loop-j.j in
    let e = c.from-in-loop-j.ensures in
    let h = c.from.ensures in
    let short = lt-leb (get_or b j 0) (get_or counts (j + 1) 0) (omega arith) in
    rw (le-leb args.minima.b0 args.self.now.found (omega arith), every_fails (enough b counts) 8 j (omega arith) short)

pub loop-j-preserved : goal.loop-j-preserved
loop-j-preserved c =
    let args = c.args in
    let turn = c.loop-j in
    let e = c.from-in-loop-j.ensures in
    every_more _ _ turn.invariant (le-leb (get_or args.minima.b turn.j 0) (get_or args.self.now.by_setting (turn.j + 1) 0) (omega arith))

pub returns : goal.returns
unfolding met
returns c =
    let args = c.args in
    let h = c.from.ensures in
    let all = every_done (enough args.minima.b args.self.now.by_setting) c.loop-j.j 8 (omega arith) (omega arith) c.loop-j.invariant in
    rw (le-leb args.minima.b0 args.self.now.found (omega arith), all)
