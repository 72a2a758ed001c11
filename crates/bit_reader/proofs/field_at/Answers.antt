-- `bit_reader::field_at` meets its contract: the bytes go as far as the place past the field, or stop before it, and the four bytes from the place's
-- on hold the field.
use Prim.Native.Nat.{◌+◌}
use native.Mathlib.Omega.{arith}
use Rattle.bit_reader.proofs.FieldLaws.{inside, outside, field_value, field_read, none_read}
use Rattle.std.proofs.lemmas.Bool.{not_from_false, not_from_true}
use Rattle.bit_reader.proofs.field_at.Goals as goal

-- the bytes stop before the end of the field
pub returns-then-not-long_enough : goal.returns-then-not-long_enough
returns-then-not-long_enough c n here =
    let args = c.args in
    let end = n + args.width in
    let past = c.past-next.ensures n here in
    let short = outside args.bytes.now end (c.long_enough.ensures end past) (not_from_false _ c.if-not-long_enough.true) in
    record { field = none_read args.bytes.now n args.width short; past = past }

pub word_at-requires : goal.word_at-requires
word_at-requires c =
    let asked = c.requires in
    let end = asked.read + c.args.width in
    let past = c.past-next.ensures asked.read asked.here in
    omega (arith, asked.here.count, asked.wide, inside c.args.bytes.now end (c.long_enough.ensures end past) (not_from_true _ c.if-not-long_enough.false))

-- the field is inside the bytes
pub returns : goal.returns
returns c n here =
    let end = n + c.args.width in
    let past = c.past-next.ensures n here in
    record {
      field = field_read record {
        inside = inside c.args.bytes.now end (c.long_enough.ensures end past) (not_from_true _ c.if-not-long_enough.false);
        is = field_value c.args.bytes.now c.args.place here c.args.width c.requires.narrow (λ i. (c.type_inv.bytes i).fits)
            c.word_at.ensures;
      };
      past = past;
    }
