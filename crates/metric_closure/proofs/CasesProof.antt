-- The statements of specs/Cases.antt, by computation. Assumes nothing.
use mathlib.Core.Path.{refl}
use Rattle.lists.specs.Lists.{every, sum_below, count_below, tabulate, overwrite}
use Rattle.study.specs.Refusals.{first_of}
use Rattle.metric_closure.specs.Closure.{by_way_of, closure, nearer_pairs, lowered_pairs}
use Rattle.metric_closure.specs.Call.{in_range, symmetric_row, symmetric_table, close_reasons, close_verdict, closed_table, close_answer, close_leaves}
use Rattle.metric_closure.specs.Cases.{cases, Answered, Left}

pub answered : Answered
unfolding cases close_answer close_verdict close_reasons first_of in_range symmetric_table symmetric_row every
    lowered_pairs nearer_pairs sum_below count_below closure by_way_of
answered = refl

pub left : Left
unfolding cases close_leaves close_verdict close_reasons first_of in_range symmetric_table symmetric_row every
    closed_table overwrite tabulate closure by_way_of
left = refl
