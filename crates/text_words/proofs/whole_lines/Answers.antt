-- A line ends with each line feed. Assumes nothing.
use borrow.Author.Rules.{rules}
use mathlib.Core.Path.{◌≡◌, ◌∙◌}
use lib.Dec.{eqb}
use Rattle.std.specs.Prelude.{count_by}
use Rattle.text_words.proofs.WordLaws.{lines_counted}
use Rattle.text_words.proofs.whole_lines.Goals as goal

pub returns : goal.returns
returns c =
    let counted : c.count.result ≡ count_by (λ b. eqb b 10) c.args.text.now = search rules in counted ∙ lines_counted c.args.text.now
