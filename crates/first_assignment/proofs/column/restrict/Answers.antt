-- Of the blocks below m, tide t has kept those that rank before v; everything else is as it was. Assumes nothing.
use native.Mathlib.Omega.{arith}
use Prim.Native.Nat.{◌+◌, ◌*◌}
use lib.ListN.{get_or}
use Rattle.std.proofs.Common.{rules, Fits, w8}
use Rattle.study.specs.Limits.{max_tides}
use Rattle.lists.specs.Lists.{at}
use Rattle.first_assignment.proofs.ColumnLaws.{kept_most, restrict_more}
use Rattle.first_assignment.proofs.column.restrict.Goals as goal

pub overflow_mul-allowed : goal.overflow_mul-allowed
overflow_mul-allowed c =
    let entry = get_or c.loop-m.allowed (c.loop-m.m * max_tides + c.args.t) 0 in
    let byte : Fits w8 entry = search rules in
    omega (arith, kept_most _ entry c.from-kept.ensures, byte)

pub loop-m-preserved : goal.loop-m-preserved
loop-m-preserved c =
    let ranks = c.args.ranks.now in
    let few = ranks.few in
    let now = c.loop-m.invariant in
    restrict_more {rank = at ranks.by_block} c.from-kept.result (omega arith) (omega arith) (omega arith) now c.from-kept.ensures
