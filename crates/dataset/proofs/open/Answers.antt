-- `open` meets its contract, both clauses at each exit. Assumes nothing.
use Rattle.std.proofs.Common.{arith}
use Rattle.lists.proofs.Scans.{between_in, between_low, between_high}
use Rattle.validity.proofs.LayoutLaws.{short_test}
use Rattle.dataset.proofs.AnswerLaws.{open_1, open_2, opened_state}
use Rattle.dataset.proofs.open.Goals as goal

-- the memory is too short
pub returns-then-is_short : goal.returns-then-is_short
returns-then-is_short c =
    let told = open_1 _ _ (short_test _ c.is_short.ensures.short c.if-is_short.true) in
    record { answer = told.0; leaves = told.1 }

-- k is below 1
pub returns-then-k-lt1 : goal.returns-then-k-lt1
returns-then-k-lt1 c =
    let told = open_2 _ _ (short_test _ c.is_short.ensures.short c.if-is_short.false) (between_low 1 8 _ c.if-k-lt1.true) in
    record { answer = told.0; leaves = told.1 }

-- k is above 8
pub returns-then-k-gt-MAX_K : goal.returns-then-k-gt-MAX_K
returns-then-k-gt-MAX_K c =
    let told = open_2 _ _ (short_test _ c.is_short.ensures.short c.if-is_short.false) (between_high 1 8 c.args.k (omega arith)) in
    record { answer = told.0; leaves = told.1 }

-- the dataset is opened
pub returns : goal.returns
returns c =
    let fits = short_test _ c.is_short.ensures.short c.if-is_short.false in
    let told = opened_state _ _ fits (between_in 1 8 c.args.k (omega arith) (omega arith)) c.fill_front.ensures c.fill_front-2.ensures in
    record { answer = told.0; leaves = told.1 }
