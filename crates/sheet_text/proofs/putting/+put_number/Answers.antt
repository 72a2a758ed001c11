-- `put_number` meets its contract: the digits of the tenth part are put, and the last after them. Assumes nothing.
use Rattle.std.proofs.Common.{refl, sym, arith}
use Rattle.sheet_text.proofs.NumberLaws.{decimal_one, decimal_more, one_length, more_length}
use Rattle.sheet_text.proofs.PuttingLaws.{puts_then, puts_as}
use Rattle.sheet_text.proofs.putting.+put_number.Goals as goal

pub put_byte-requires : goal.put_byte-requires
put_byte-requires t c = omega (arith, one_length c.args.x c.if-x-lt10.true)

pub returns-then-x-lt10 : goal.returns-then-x-lt10
returns-then-x-lt10 t c = puts_as c.put_byte.ensures (sym (decimal_one c.args.x c.if-x-lt10.true)) refl

pub put_number-last-requires : goal.put_number-last-requires
put_number-last-requires t c = (omega arith, omega (arith, more_length c.args.x c.if-x-lt10.false (omega arith)))

pub put_byte-requires-2 : goal.put_byte-requires-2
put_byte-requires-2 t c = omega (arith, more_length c.args.x c.if-x-lt10.false (omega arith))

pub returns : goal.returns
returns t c =
    let put = puts_then c.put_number-last.ensures c.put_byte-2.ensures in
    puts_as put (sym (decimal_more c.args.x c.if-x-lt10.false (omega arith))) refl
