-- The statement of specs/Limit.antt: of a longer file both are refused, by the same number. Assumes nothing.
use Prim.Native.Nat.{ℕ}
use native.Mathlib.Omega.{arith}
use mathlib.Core.Path.{◌≡◌, sym, ap, ◌∙◌}
use mathlib.Core.Logic.{⊎_elim}
use mathlib.Core.List.{List}
use lib.ListN.{length, take}
use lib.Seq.{take_all}
use Rattle.lists.proofs.Tests.{split}
use Rattle.study.specs.Refusals.{Numbered, first_of}
use Rattle.file_format.specs.File.{decoded, read_reasons}
use Rattle.sheet_of_file.proofs.LimitLaws.{cut_refused}
use Rattle.merge_text.specs.Pairs.{pairs_of}
use Rattle.merge_text.specs.Joining.{Report, first_refused, second_refused, Made, unless, merged_by, joined}
use Rattle.merge_text.specs.Limit.{Decided}

-- where what follows a Read counts only of an accepted file
cut : (tell : Numbered → Report) (rest : List ℕ → Made) (s : List ℕ)
    → unless (first_of (read_reasons (take 17915 s))) tell (rest (take 17915 s)) ≡ unless (first_of (read_reasons s)) tell (rest s)
cut tell rest s =
    ⊎_elim (λ l. ap (λ s. unless (first_of (read_reasons s)) tell (rest s)) (take_all 17915 s (omega arith)))
    (λ l. let R = cut_refused s l in
    ap (λ v. unless v tell (rest (take 17915 s))) R.front ∙ sym (ap (λ v. unless v tell (rest s)) R.whole))
    (split (length s) 17915)

pub decided : Decided
unfolding joined
decided first second pairs =
    let front = take 17915 second in
    cut first_refused (λ s. unless (first_of (read_reasons front)) second_refused (merged_by (decoded s) (decoded front) (pairs_of pairs))) first
    ∙ ap (unless (first_of (read_reasons first)) first_refused) (cut second_refused (λ s. merged_by (decoded first) (decoded s) (pairs_of pairs)) second)
