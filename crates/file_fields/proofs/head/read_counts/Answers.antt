-- `read_counts` meets its contract: 6 bytes hold both fields, and each way out has one law: what the fields and the tests before it told, and
-- the test that it is.
use native.Mathlib.Omega.{arith}
use mathlib.Core.Path.{◌≡◌}
use mathlib.Core.Bool.{false}
use Rattle.lists.specs.Lists.{between}
use Rattle.lists.proofs.Scans.{between_low, between_high}
use Rattle.file_fields.proofs.HeadLaws.{start_stops, start_goes, start_count, start_k, begun}
use Rattle.file_fields.proofs.head.read_counts.Goals.{then-k-lt1-via-then-k-lt1, then-k-lt1-via-else-k-lt1+then-k-gt-MAX_SETTINGS}
use Rattle.file_fields.proofs.head.read_counts.Goals as goal

-- the number of tides is not cut off
pub returns-in_default : goal.returns-in_default
returns-in_default c =
    let tides = c.take.ensures.step 8 c.requires.here in
    absurd (omega (arith, c.requires.marked.six, tides.field.ends c.in_default.is))

-- refused by 10
pub returns-then-n-gt-MAX_TIDES-clause-got : goal.returns-then-n-gt-MAX_TIDES-clause-got
returns-then-n-gt-MAX_TIDES-clause-got c =
    let tides = c.take.ensures.step 8 c.requires.here in
    start_stops (start_count c.requires.marked (tides.field.got c.in-Some.is) c.if-n-gt-MAX_TIDES.true)

pub take-requires-2 : goal.take-requires-2
take-requires-2 c =
    let tides = c.take.ensures.step 8 c.requires.here in
    record { read = 15; here = tides.past; low = omega arith; wide = omega arith; narrow = omega arith }

-- k is not cut off
pub returns-in_default-take : goal.returns-in_default-take
returns-in_default-take c =
    let tides = c.take.ensures.step 8 c.requires.here in
    let settings = rw c.take.ensures.same at c.take-2.ensures.step 15 tides.past in
    absurd (omega (arith, c.requires.marked.six, settings.field.ends c.in_default-take.is))

-- refused by 2, below and above
pub returns-then-k-lt1-clause-got : goal.returns-then-k-lt1-clause-got
returns-then-k-lt1-clause-got c =
    let tides = c.take.ensures.step 8 c.requires.here in
    let settings = rw c.take.ensures.same at c.take-2.ensures.step 15 tides.past in
    let outside : between 1 8 c.in-Some-take.settings ≡ false = elim c.then-k-lt1.branch [
      | then-k-lt1-via-then-k-lt1 w ↦ between_low 1 8 _ w.if-k-lt1.true
      | then-k-lt1-via-else-k-lt1+then-k-gt-MAX_SETTINGS w ↦ between_high 1 8 _ w.if-k-gt-MAX_SETTINGS.true
    ] in
    start_stops (start_k c.requires.marked (tides.field.got c.in-Some.is) c.if-n-gt-MAX_TIDES.false (settings.field.got c.in-Some-take.is) outside)

-- both are in range
pub returns-clause-got : goal.returns-clause-got
returns-clause-got c =
    let tides = c.take.ensures.step 8 c.requires.here in
    let settings = rw c.take.ensures.same at c.take-2.ensures.step 15 tides.past in
    start_goes
    (begun c.requires.marked (tides.field.got c.in-Some.is) c.if-n-gt-MAX_TIDES.false (settings.field.got c.in-Some-take.is)
    c.if-k-lt1.false c.if-k-gt-MAX_SETTINGS.false)
    settings.past
