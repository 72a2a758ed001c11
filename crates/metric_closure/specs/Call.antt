-- The call of document 02, 2.1, on a table in memory, n rows of n: its reasons for a refusal, in document 02's order, its answer, and what
-- it leaves. Assumes nothing.
use Rattle.std.specs.Prelude.{ℕ, ◌+◌, ◌*◌, ◌/◌, ◌%◌, Bool, not, ◌&&◌, List, [], ◌∷◌, leb, eqb, length, get_or, Result, Ok, Err}
use Rattle.lists.specs.Lists.{every, overwrite}
use Rattle.study.specs.Limits.{max_tides, max_distance}
use Rattle.study.specs.declared.Refusal.{Refusal}
use Rattle.study.specs.Refusals.{number, numbered, Verdict, accepted, refused, settled, Reply, value, refusal, replied, Reason, ◌⇒◌, first_of}
use Rattle.metric_closure.specs.Closure.{closure, lowered_pairs}

-- place j of row i
abbrev pub entry : ℕ → List ℕ → ℕ → ℕ → ℕ
entry n l i j = get_or l (i * n + j) 0

-- each of the first m numbers is at most 1,048,575
unfoldable pub in_range : ℕ → List ℕ → Bool
in_range m l = every m (λ p. leb (get_or l p 0) max_distance)

-- tide i is as far from each tide before it as they are from it, and at 0 from itself
unfoldable pub symmetric_row : ℕ → List ℕ → ℕ → Bool
symmetric_row n l i = every i (λ j. eqb (entry n l i j) (entry n l j i)) && eqb (entry n l i i) 0

-- the table is the same both ways, and each tide is at 0 from itself
unfoldable pub symmetric_table : ℕ → List ℕ → Bool
symmetric_table n l = every n (symmetric_row n l)

-- 10 too many tides, 1 fewer than n · n entries, 6 a distance of the table, 13 not symmetric
unfoldable pub close_reasons : ℕ → List ℕ → List Reason
close_reasons n l =
    (not (leb n max_tides) ⇒ number 10)
    ∷ (not (leb (n * n) (length l)) ⇒ number 1)
    ∷ (not (in_range (n * n) l) ⇒ number 6)
    ∷ (not (symmetric_table n l) ⇒ number 13)
    ∷ []

-- whether the call is accepted, or why not
unfoldable pub close_verdict : ℕ → List ℕ → Verdict
close_verdict n l = first_of (close_reasons n l)

-- the answer: how many pairs were lowered, or the refusal
unfoldable pub close_answer : ℕ → List ℕ → Reply ℕ
close_answer n l = replied (close_verdict n l) (lowered_pairs n (entry n l))

-- the memory whose first n · n places hold the closure; those past them stay
unfoldable pub closed_table : ℕ → List ℕ → List ℕ
closed_table n l = overwrite (n * n) (λ p. closure n (entry n l) (p / n) (p % n)) l

-- the table afterwards: a refusal leaves it as it was
unfoldable pub close_leaves : ℕ → List ℕ → List ℕ
close_leaves n l = settled (close_verdict n l) (closed_table n l) l

-- the code's answers, by the documents' numbers: of the reasons alone, and of the call
abbrev pub checked_of : Result Unit Refusal → Verdict
checked_of (Ok _) = accepted
checked_of (Err r) = refused (numbered r)

abbrev pub closed_of : Result ℕ Refusal → Reply ℕ
closed_of (Ok lowered) = value lowered
closed_of (Err r) = refusal (numbered r)
