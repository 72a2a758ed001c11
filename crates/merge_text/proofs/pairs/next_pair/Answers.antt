-- `next_pair` meets its contract: a number on the last pair's line, one that begins a pair, the end, or no number. Assumes nothing.
use mathlib.Core.Path.{refl, sym, ap, ◌∙◌}
use Rattle.std.specs.Prelude.{Ok}
use Rattle.merge_text.specs.Pairs.{wrong_at}
use Rattle.text_words.proofs.WordLaws.{next_within}
use Rattle.merge_text.proofs.PairLaws.{step_is, number_many, number_begins}
use Rattle.merge_text.proofs.pairs.next_pair.Goals as goal

pub returns-then-after-last : goal.returns-then-after-last
returns-then-after-last c =
    let a = c.args in
    step_is a.text.now a.last a.from c.next.ensures (c.in-Ok-Number.is ∙ ap Ok c.in-Ok-Number.field-0-is)
    (number_many a.text.now a.last _ _ c.if-after-last.true)

pub end_pair-requires : goal.end_pair-requires
end_pair-requires c =
    next_within c.requires (sym c.next.ensures ∙ c.in-Ok-Number.is ∙ ap Ok c.in-Ok-Number.field-0-is)

pub returns-else-after-last : goal.returns-else-after-last
returns-else-after-last c =
    let a = c.args in
    step_is a.text.now a.last a.from c.next.ensures (c.in-Ok-Number.is ∙ ap Ok c.in-Ok-Number.field-0-is)
    (number_begins a.text.now a.last _ _ c.if-after-last.false c.end_pair.ensures)

pub returns-in-Ok-End : goal.returns-in-Ok-End
returns-in-Ok-End c =
    let a = c.args in
    step_is a.text.now a.last a.from c.next.ensures (c.in-Ok-End.is ∙ ap Ok c.in-Ok-End.field-0-is) refl

pub returns-in-Err : goal.returns-in-Err
returns-in-Err c =
    let a = c.args in
    step_is a.text.now a.last a.from c.next.ensures c.in-Err.is (ap (wrong_at c.in-Err.error.line) c.fault_of.ensures)
