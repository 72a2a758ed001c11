-- `take_numbers` meets its contract: inside the file no field is cut off, and each adds its number.
use Prim.Native.Nat.{ℕ, ◌+◌, ◌*◌, ◌≤◌}
use native.Mathlib.Omega.{arith}
use mathlib.Core.Path.{refl, sym, ◌∙◌, subst}
use lib.ListN.{length-replicate}
use Rattle.file_fields.proofs.TakingLaws.{one_more, taken_none, taken_more}
use Rattle.file_fields.proofs.head.take_numbers.Goals as goal

pub loop-i-init : goal.loop-i-init
loop-i-init g c = record { same = refl; taken = taken_none c.args.width _ c.args.count (record { below = c.requires.here.below; count = refl }) }

pub returns-in_default : goal.returns-in_default
returns-in_default g c =
    let place = c.args.reader.now.place in
    let turn = c.loop-i in
    let read = 8 * place.byte + place.bit + c.args.width * turn.i in
    let field = (rw turn.invariant.same at c.take.ensures.step read turn.invariant.taken.here).field in
    absurd (omega (arith, c.requires.here.count, c.requires.inside, one_more c.args.width c.loop-i-test.true, field.ends c.in_default.is))

pub loop-i-preserved : goal.loop-i-preserved
loop-i-preserved g c =
    let place = c.args.reader.now.place in
    let turn = c.loop-i in
    let start = 8 * place.byte + place.bit in
    let step = rw turn.invariant.same at c.take.ensures.step (start + c.args.width * turn.i) turn.invariant.taken.here in
    let room = subst (λ (x : ℕ). c.args.count ≤ x) (sym (length-replicate g.row.N 0)) c.requires.fits in
    record {
      same = c.take.ensures.same ∙ turn.invariant.same;
      taken = taken_more c.args.width start c.args.count turn.invariant.taken c.loop-i-test.true room (step.field.got c.in-Some.is) step.past;
    }
