-- The statements of specs/Cases.antt, by computation. Assumes nothing.
use mathlib.Core.Path.{refl}
use mathlib.Core.List.{head_d}
use Rattle.lists.specs.Lists.{every, sum_below, count_below, tabulate}
use Rattle.study.specs.Study.{no_tide, tide, distance}
use Rattle.study.specs.Refusals.{first_of, fresh_reasons, held_reasons}
use Rattle.study.specs.Calls.{duplicated, holds_duplicate}
use Rattle.validity.specs.Memory.{short, is_study, is_dataset}
use Rattle.merge.specs.Merge.{unshared, rest, way, across, added, merged_study, added_counts, merged, place, consistent, agreeing, agree, in_range}
use Rattle.merge.specs.Merge.{countable, merge_reasons}
use Rattle.access.specs.Calls.{reasons, verdict, learnt, response, answer}
use Rattle.merge.specs.Calls.{source_reasons, merges_datasets}
use Rattle.merge.specs.Cases.{merged_to, OneShared, TwoShared, DuplicateArises, order, ReasonsInOrder, MemoryFirst}

pub one_shared : OneShared
unfolding merged_to merged merged_study added rest unshared way across added_counts place every tabulate count_below sum_below tide distance no_tide head_d
one_shared = refl

pub two_shared : TwoShared
unfolding merged_to merged merged_study added rest unshared way across added_counts place every tabulate count_below sum_below tide distance no_tide head_d
two_shared = refl

pub duplicate_arises : DuplicateArises
unfolding holds_duplicate duplicated merge_reasons first_of agree agreeing consistent in_range countable merged merged_study added rest unshared way across
    added_counts every tabulate tide distance no_tide
duplicate_arises = (refl, refl, refl, refl)

pub reasons_in_order : ReasonsInOrder
unfolding order merge_reasons first_of agree agreeing consistent in_range countable merged merged_study added rest unshared way across added_counts every
    tabulate tide distance no_tide
reasons_in_order = refl

pub memory_first : MemoryFirst
unfolding answer response learnt verdict reasons merges_datasets source_reasons held_reasons fresh_reasons first_of short is_dataset is_study
memory_first = refl
