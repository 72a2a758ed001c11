-- The statements of specs/Cases.antt, by computation. Assumes nothing.
use mathlib.Core.Path.{refl}
use mathlib.Core.List.{flat_map}
use Rattle.lists.specs.Lists.{every, sum_below, tabulate}
use Rattle.study.specs.Study.{no_tide, tide, distance, valid_minima}
use Rattle.study.specs.Refusals.{first_of}
use Rattle.study.specs.Calls.{open_reasons, opened, opening, understood, minima_reasons, with_minima, setting_minima}
use Rattle.study.specs.Calls.{triangle, violations, duplicated, enter_reasons, entered, entering}
use Rattle.file_format.specs.Bits.{binary, all_bits, pack, packed}
use Rattle.file_format.specs.File.{tide_fields, fields, file_with, file_of}
use Rattle.text_words.specs.Words.{newlines, ends_word, begins, comment_after, past, start_of, word_of}
use Rattle.text_words.specs.Words.{digit, with_digit, value_from, numeral_of, word_at, next_of}
use Rattle.study_text.specs.Packing.{number_of, numbers_of, minima_from, opening_of, minima_of, head_of, tide_of}
use Rattle.study_text.specs.Packing.{turn_of, turns_of, text_of, pack_answer, pack_leaves}
use Rattle.study_text.specs.Cases.{cases, TextCases, OneTideFile, RaisedFile}

pub worked_cases : TextCases
unfolding cases pack_answer text_of turns_of turn_of tide_of head_of minima_of opening_of minima_from numbers_of number_of
    next_of word_at numeral_of value_from with_digit digit word_of start_of past comment_after begins ends_word newlines
    open_reasons opening opened understood minima_reasons setting_minima with_minima valid_minima enter_reasons entering entered
    violations duplicated triangle distance tide no_tide first_of every sum_below tabulate flat_map
    file_of file_with fields tide_fields packed pack all_bits binary
worked_cases = refl

pub one_tide : OneTideFile
unfolding pack_leaves text_of turns_of turn_of tide_of head_of minima_of opening_of minima_from numbers_of number_of
    next_of word_at numeral_of value_from with_digit digit word_of start_of past comment_after begins ends_word newlines
    open_reasons opening opened understood minima_reasons setting_minima with_minima valid_minima enter_reasons entering entered
    violations duplicated triangle distance tide no_tide first_of every sum_below tabulate flat_map
    file_of file_with fields tide_fields packed pack all_bits binary
one_tide = refl

pub raised_file : RaisedFile
unfolding pack_leaves text_of turns_of turn_of tide_of head_of minima_of opening_of minima_from numbers_of number_of
    next_of word_at numeral_of value_from with_digit digit word_of start_of past comment_after begins ends_word newlines
    open_reasons opening opened understood minima_reasons setting_minima with_minima valid_minima enter_reasons entering entered
    violations duplicated triangle distance tide no_tide first_of every sum_below tabulate flat_map
    file_of file_with fields tide_fields packed pack all_bits binary
raised_file = refl
