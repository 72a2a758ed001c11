-- The statements of specs/Cases.antt, by computation. Assumes nothing.
use mathlib.Core.Path.{refl}
use mathlib.Core.List.{flat_map, head_d}
use Rattle.lists.specs.Lists.{every, sum_below, count_below, tabulate}
use Rattle.study.specs.Problem.{centres_among, centres, centre_of, nearest_distance, blocks_at, nearest_block}
use Rattle.study.specs.Study.{no_tide, tide, distance, meets, sufficient, problem, valid_minima}
use Rattle.study.specs.Refusals.{first_of, fresh_reasons, held_reasons}
use Rattle.study.specs.Calls.{open_reasons, opened, opening, understood, minima_reasons, with_minima, setting_minima, triangle, violations, duplicated}
use Rattle.study.specs.Calls.{enter_reasons, entered, entering}
use Rattle.study.specs.Calls.{withdraw_reasons, withdrawn, shortened, counted, withdrawing, centres_reasons, centre_numbers, nearest_numbers, nearest_distances}
use Rattle.study.specs.Calls.{centres_written, block_reasons, judge_reasons}
use Rattle.file_format.specs.Bits.{binary, all_bits, pack, packed}
use Rattle.file_format.specs.File.{tide_fields, fields, file_with, file_of, head_reasons, read_reasons}
use Rattle.validity.specs.Memory.{short, is_study, is_dataset}
use Rattle.access.specs.Calls.{reasons, verdict, changed, step, lent, told, learnt}
use Rattle.dataset.specs.Calls.{opens_dataset, sets_minima, enters_tide, withdraws_tide}
use Rattle.study_file.specs.Calls.{reads_file, write_reasons, writes_file}
use Rattle.merge.specs.Calls.{source_reasons, merges_datasets}
use Rattle.blocking.specs.Calls.{finds_centres, makes_blocks, judges_list}
use Rattle.priced_blocks.specs.Calls.{prices_blocks}
use Rattle.guarantee.specs.Runs.{call_of, following}
use Rattle.guarantee.specs.Counts.{accepted_calls}
use Rattle.guarantee.specs.Cases.{order, CallsInOrder, OneRun, OnceMore, OneStretch, minima_cases, MinimaLeft, EquallyNear}

pub in_order : CallsInOrder
unfolding order verdict reasons held_reasons fresh_reasons opens_dataset reads_file merges_datasets source_reasons short is_dataset is_study sets_minima
    enters_tide withdraws_tide finds_centres makes_blocks prices_blocks judges_list writes_file read_reasons head_reasons open_reasons minima_reasons
    enter_reasons withdraw_reasons centres_reasons block_reasons judge_reasons write_reasons first_of no_tide sufficient meets violations duplicated
    triangle distance tide file_of file_with fields tide_fields packed pack all_bits binary count_below sum_below every tabulate flat_map
in_order = refl

pub one_run : OneRun
unfolding following call_of step verdict reasons held_reasons fresh_reasons changed enters_tide withdraws_tide enter_reasons entering entered
    withdraw_reasons withdrawing withdrawn shortened counted first_of
    violations duplicated triangle distance tide no_tide every flat_map
one_run = refl

pub once_more : OnceMore
unfolding following call_of step verdict reasons held_reasons fresh_reasons changed enters_tide withdraws_tide enter_reasons entering entered
    withdraw_reasons withdrawing withdrawn shortened counted first_of
    violations duplicated triangle distance tide no_tide every flat_map
once_more = refl

pub one_stretch : OneStretch
unfolding accepted_calls call_of step verdict reasons held_reasons fresh_reasons changed opens_dataset enters_tide withdraws_tide
    open_reasons opening opened enter_reasons entering entered withdraw_reasons withdrawing withdrawn shortened counted first_of
    violations duplicated triangle distance tide no_tide every flat_map
one_stretch = refl

pub minima_left : MinimaLeft
unfolding minima_cases following call_of step verdict reasons held_reasons fresh_reasons changed sets_minima minima_reasons understood setting_minima with_minima
    valid_minima first_of every sum_below
minima_left = refl

pub equally_near : EquallyNear
unfolding learnt told lent verdict reasons held_reasons fresh_reasons finds_centres centres_reasons first_of centres_written centre_numbers nearest_numbers
    nearest_distances centres centres_among centre_of nearest_block nearest_distance blocks_at problem distance tide no_tide tabulate head_d
equally_near = refl
