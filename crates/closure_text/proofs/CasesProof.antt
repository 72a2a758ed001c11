-- The statements of specs/Cases.antt, by computation. Assumes nothing.
use mathlib.Core.Path.{refl}
use mathlib.Core.List.{flat_map}
use Rattle.lists.specs.Lists.{every, sum_below, count_below, tabulate}
use Rattle.study.specs.Study.{no_tide, tide, distance, valid_minima}
use Rattle.study.specs.Refusals.{first_of}
use Rattle.study.specs.Calls.{open_reasons, opened, opening, understood, minima_reasons, with_minima, setting_minima, measured_reasons, entered, entering}
use Rattle.metric_closure.specs.Closure.{by_way_of, closure, nearer_pairs, lowered_pairs}
use Rattle.sheet_text.specs.Text.{digits, decimal, spaced}
use Rattle.text_words.specs.Words.{newlines, ends_word, begins, comment_after, past, start_of, word_of}
use Rattle.text_words.specs.Words.{digit, with_digit, value_from, numeral_of, word_at, next_of}
use Rattle.study_text.specs.Packing.{number_of, numbers_of, minima_from, opening_of, minima_of, head_of, tide_of}
use Rattle.study_text.specs.Packing.{turn_of, turns_of, text_of}
use Rattle.closure_text.specs.Text.{lowered, closed_tide, closed_study, number_line, tide_line, study_text, lowered_line, closure_text, mend_answer}
use Rattle.closure_text.specs.Cases.{cases, Said, Roomless, Printed}

pub said : Said
unfolding cases mend_answer text_of turns_of turn_of tide_of head_of minima_of opening_of minima_from numbers_of number_of
    next_of word_at numeral_of value_from with_digit digit word_of start_of past comment_after begins ends_word newlines
    open_reasons opening opened understood minima_reasons setting_minima with_minima valid_minima measured_reasons entering entered
    distance tide no_tide first_of every sum_below count_below tabulate flat_map
    closure_text lowered_line study_text tide_line number_line spaced closed_study closed_tide lowered lowered_pairs nearer_pairs closure by_way_of decimal digits
said = refl

pub roomless : Roomless
unfolding mend_answer text_of turns_of turn_of tide_of head_of minima_of opening_of minima_from numbers_of number_of
    next_of word_at numeral_of value_from with_digit digit word_of start_of past comment_after begins ends_word newlines
    open_reasons opening opened understood minima_reasons setting_minima with_minima valid_minima measured_reasons entering entered
    distance tide no_tide first_of every sum_below tabulate flat_map
roomless = refl

pub closure_texts : Printed
unfolding text_of turns_of turn_of tide_of head_of minima_of opening_of minima_from numbers_of number_of
    next_of word_at numeral_of value_from with_digit digit word_of start_of past comment_after begins ends_word newlines
    open_reasons opening opened understood minima_reasons setting_minima with_minima valid_minima measured_reasons entering entered
    distance tide no_tide first_of every sum_below count_below tabulate flat_map
    closure_text lowered_line study_text tide_line number_line spaced closed_study closed_tide lowered lowered_pairs nearer_pairs closure by_way_of decimal digits
closure_texts = refl
