-- The statements of specs/Cases.antt, by computation. Assumes nothing.
use mathlib.Core.Path.{refl}
use mathlib.Core.List.{flat_map}
use Rattle.lists.specs.Lists.{every, sum_below, tabulate}
use Rattle.study.specs.Study.{no_tide, tide, distance, valid_minima}
use Rattle.study.specs.Refusals.{first_of}
use Rattle.study.specs.Calls.{triangle, violations}
use Rattle.file_format.specs.Bits.{binary, all_bits, pack, packed}
use Rattle.file_format.specs.File.{tide_fields, fields, file_with, file_of, bit_length, byte_length, counts_under, counts_at, tide_at, minima_at, decoded}
use Rattle.file_format.specs.File.{head_reasons, tide_reasons, read_reasons}
use Rattle.narrowing.specs.Narrowing.{narrowed}
use Rattle.text_words.specs.Words.{newlines, ends_word, begins, comment_after, past, start_of, word_of}
use Rattle.text_words.specs.Words.{digit, with_digit, value_from, numeral_of, word_at, next_of}
use Rattle.merge.specs.Merge.{unshared, rest, way, across, added, merged_study, added_counts, merged, consistent, agreeing, agree, in_range, countable}
use Rattle.merge.specs.Merge.{merge_reasons}
use Rattle.merge_text.specs.Pairs.{step_of, steps_of, pairs_of}
use Rattle.merge_text.specs.Joining.{joined, join_answer, join_leaves}
use Rattle.merge_text.specs.Cases.{cases, PairsRead, InOrder, OneShared}

pub pairs_read : PairsRead
unfolding cases pairs_of steps_of step_of narrowed
    next_of word_at numeral_of value_from with_digit digit word_of start_of past comment_after begins ends_word newlines
pairs_read = refl

pub in_order : InOrder
unfolding join_answer joined pairs_of steps_of step_of narrowed
    next_of word_at numeral_of value_from with_digit digit word_of start_of past comment_after begins ends_word newlines
    read_reasons head_reasons tide_reasons decoded minima_at tide_at byte_length bit_length counts_under counts_at triangle violations distance tide no_tide
    valid_minima first_of every sum_below tabulate flat_map file_of file_with fields tide_fields packed pack all_bits binary
    merge_reasons agree agreeing consistent in_range countable merged merged_study added rest unshared way across added_counts
in_order = refl

pub one_shared : OneShared
unfolding join_leaves joined pairs_of steps_of step_of narrowed
    next_of word_at numeral_of value_from with_digit digit word_of start_of past comment_after begins ends_word newlines
    read_reasons head_reasons tide_reasons decoded minima_at tide_at byte_length bit_length counts_under counts_at triangle violations distance tide no_tide
    valid_minima first_of every sum_below tabulate flat_map file_of file_with fields tide_fields packed pack all_bits binary
    merge_reasons agree agreeing consistent in_range countable merged merged_study added rest unshared way across added_counts
one_shared = refl
