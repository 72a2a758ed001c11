-- One more digit, or the cap. Assumes nothing.
use Prim.Native.Nat.{◌+◌, ◌*◌, min}
use mathlib.Core.Path.{ap, ◌∙◌}
use Rattle.text_words.specs.Words.{with_digit}
use Rattle.text_words.proofs.WordLaws.{capped_is}
use Rattle.text_words.proofs.with_digit.Goals as goal

pub returns : goal.returns
unfolding with_digit
returns c = c.min.ensures ∙ ap (λ x. min (c.args.value * 10 + x) 4294967296) c.from.ensures ∙ capped_is _
