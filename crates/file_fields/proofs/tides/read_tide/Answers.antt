-- `read_tide` meets its contract: tide t's fields are inside the file (`at_tide`), and each way out has one law. Assumes nothing.
use Prim.Native.Nat.{ℕ}
use native.Mathlib.Omega.{arith}
use mathlib.Core.List.{List}
use Rattle.file_format.specs.Bits.{bits_at}
use Rattle.file_format.specs.File.{bit_length, counts_in}
use Rattle.file_fields.proofs.RowLaws.{at_tide, tide_five, row_begins, tide_stops, tide_goes}
use Rattle.file_fields.proofs.tides.read_tide.Goals as goal

-- the bits before tide t
abbrev begins : List ℕ → ℕ → ℕ
begins file t = bit_length (counts_in file) (bits_at file 15 4) t

pub take-requires : goal.take-requires
take-requires c =
    record {
      read = begins c.args.reader.now.bytes.now c.args.t;
      here = c.requires.2.here;
      low = omega (arith, (at_tide c.requires).low);
      wide = omega arith;
      narrow = omega arith;
    }

-- the setting is not cut off
pub returns-in_default : goal.returns-in_default
returns-in_default c =
    let setting = c.take.ensures.step (begins c.args.reader.now.bytes.now c.args.t) c.requires.2.here in
    absurd (omega (arith, (at_tide c.requires).setting, setting.field.ends c.in_default.is))

-- refused by 5
pub returns-then-k-less-clause-read : goal.returns-then-k-less-clause-read
returns-then-k-less-clause-read c =
    let setting = c.take.ensures.step (begins c.args.reader.now.bytes.now c.args.t) c.requires.2.here in
    tide_five (at_tide c.requires) (setting.field.got c.in-Some.is) c.if-k-less.true

pub take_row-taken-requires : goal.take_row-taken-requires
take_row-taken-requires c =
    let setting = c.take.ensures.step (begins c.args.reader.now.bytes.now c.args.t) c.requires.2.here in
    rw c.take.ensures.same (row_begins (at_tide c.requires) (setting.field.got c.in-Some.is) setting.past)

-- refused by 7
pub returns-in_default-checked-clause-read : goal.returns-in_default-checked-clause-read
returns-in_default-checked-clause-read c =
    let setting = c.take.ensures.step (begins c.args.reader.now.bytes.now c.args.t) c.requires.2.here in
    tide_stops (at_tide c.requires) (setting.field.got c.in-Some.is) c.if-k-less.false (rw c.take.ensures.same at c.take_row-taken.ensures.row)
    c.check_row-checked.ensures c.in_default-checked.is

-- the tide is read
pub returns-clause-read : goal.returns-clause-read
returns-clause-read c =
    let setting = c.take.ensures.step (begins c.args.reader.now.bytes.now c.args.t) c.requires.2.here in
    tide_goes (at_tide c.requires) (setting.field.got c.in-Some.is) c.if-k-less.false (rw c.take.ensures.same at c.take_row-taken.ensures.row)
    c.check_row-checked.ensures c.in-Ok-checked.is (rw c.take.ensures.same at c.take_row-taken.ensures.reads.here)
