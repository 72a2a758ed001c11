-- The word goes up to the first byte that ends it. Assumes nothing.
use borrow.Author.Rules.{rules}
use borrow.Author.Tests.{tests}
use mathlib.Core.Bool.{true, false}
use mathlib.Core.Path.{◌≡◌, sym, ap, ◌∙◌}
use lib.ListN.{take}
use Rattle.std.proofs.lemmas.Iterator.{IsFirst-from_position, YieldsList-from_slice}
use Rattle.text_words.specs.Words.{ends_word}
use Rattle.text_words.proofs.WordLaws.{word_length, word_front}
use Rattle.text_words.proofs.word_of.Goals as goal

pub returns-clause-word : goal.returns-clause-word
returns-clause-word c =
    let text = c.args.text.now in
    let first =
    IsFirst-from_position _ _ _ (λ b. ends_word b ≡ true) (λ b. ends_word b ≡ false) c.position.ensures.ran (YieldsList-from_slice text cc)
    (λ x q k. search (rules, tests)) (λ x q k. search (rules, tests)) in
    ap (λ n. take n text) (c.unwrap_or-end.ensures ∙ sym (word_length text _ first)) ∙ word_front text
