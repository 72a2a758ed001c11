-- `put_closing` meets its contract: two fields with their words, the counts after theirs and a newline, of at most 69 bytes. Assumes nothing.
use Prim.Native.Nat.{◌+◌, ◌≤◌}
use native.Mathlib.Omega.{arith}
use lib.ListN.{length}
use Rattle.sheet_text.specs.Text.{ascii}
use Rattle.sheet_text.specs.Lines.{named}
use Rattle.sheet_text.proofs.LineLaws.{named_short, closing_put}
use Rattle.sheet_text.proofs.lines.put_closing.Goals as goal

pub put_named-after_radius-requires : goal.put_named-after_radius-requires
put_named-after_radius-requires c =
    omega (
      arith,
      named_short (ascii "reach ") c.args.radius 32 (omega arith),
      named_short (ascii "widest ") c.args.widest 32 (omega arith),
    )

pub put_named-after_widest-requires : goal.put_named-after_widest-requires
put_named-after_widest-requires c =
    omega (
      arith,
      named_short (ascii "reach ") c.args.radius 32 (omega arith),
      named_short (ascii "widest ") c.args.widest 32 (omega arith),
    )

pub put_bytes-after_word-requires : goal.put_bytes-after_word-requires
put_bytes-after_word-requires c =
    omega (
      arith,
      named_short (ascii "reach ") c.args.radius 32 (omega arith),
      named_short (ascii "widest ") c.args.widest 32 (omega arith),
    )

pub put_counts-after_counts-requires : goal.put_counts-after_counts-requires
put_counts-after_counts-requires c =
    omega (
      arith,
      named_short (ascii "reach ") c.args.radius 32 (omega arith),
      named_short (ascii "widest ") c.args.widest 32 (omega arith),
    )

pub put_byte-requires : goal.put_byte-requires
put_byte-requires c =
    omega (
      arith,
      named_short (ascii "reach ") c.args.radius 32 (omega arith),
      named_short (ascii "widest ") c.args.widest 32 (omega arith),
    )

pub returns : goal.returns
returns c =
    let short : length (named (ascii "reach ") c.args.radius 32) + length (named (ascii "widest ") c.args.widest 32) ≤ 35 =
    omega (
      arith,
      named_short (ascii "reach ") c.args.radius 32 (omega arith),
      named_short (ascii "widest ") c.args.widest 32 (omega arith),
    ) in
    let radius = c.put_named-after_radius.ensures in
    let widest = c.put_named-after_widest.ensures in
    let word = c.put_bytes-after_word.ensures in
    let p =
    closing_put c.args.radius c.args.widest c.args.withdrawn radius widest word c.put_counts-after_counts.ensures.1 c.put_byte.ensures in
    (omega (arith, short, radius.ends, widest.ends, word.ends, c.put_counts-after_counts.ensures.0, c.put_byte.ensures.ends), p)
