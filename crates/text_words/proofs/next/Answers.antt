-- Start, end and number of the word. Assumes nothing.
use mathlib.Core.Path.{sym, ◌∙◌}
use Rattle.text_words.proofs.WordLaws.{next_end, next_number, next_wrong}
use Rattle.text_words.proofs.next.Goals as goal

pub returns-then-is_empty : goal.returns-then-is_empty
returns-then-is_empty c = next_end _ _ c.skip-start.ensures.start c.word_of-word.ensures.word (sym c.is_empty.ensures ∙ c.if-is_empty.true)

pub returns-in-Ok : goal.returns-in-Ok
returns-in-Ok c =
    next_number _ _ c.skip-start.ensures.start c.word_of-word.ensures.word (sym c.is_empty.ensures ∙ c.if-is_empty.false)
    c.numeral_of.ensures c.in-Ok.is

pub returns-in-Err : goal.returns-in-Err
returns-in-Err c =
    next_wrong _ _ c.skip-start.ensures.start c.word_of-word.ensures.word (sym c.is_empty.ensures ∙ c.if-is_empty.false)
    c.numeral_of.ensures c.in-Err.is
