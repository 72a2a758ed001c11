-- The sheet that document 01 prints for given bytes, of the definitions of Read and Block alone. Assumes nothing.
use Rattle.std.specs.Prelude.{ℕ, List, ◌++◌, replicate}
use Rattle.lists.specs.Lists.{tabulate}
use Rattle.study.specs.Limits.{max_tides}
use Rattle.study.specs.Study.{Contents}
use Rattle.study.specs.Refusals.{Verdict, replied, first_of}
use Rattle.study.specs.Calls.{block_reasons, figures, block_record}
use Rattle.file_format.specs.File.{decoded, read_reasons}
use Rattle.sheet_text.specs.Text.{sheet_text}
use Rattle.validity.specs.Memory.{State, contents_of}
use Rattle.access.specs.Calls.{answer}
use Rattle.blocking.specs.Calls.{makes_blocks}
use Rattle.blocking.specs.Rows.{no_records}

-- accepted: the blocks of the study, and the withdrawals; otherwise the refusal
abbrev pub printed : Verdict → Contents → List ℕ
printed v H =
    let F = figures H.study in
    sheet_text (replied v F) (tabulate F.blocks (block_record H.study)) H.withdrawals

-- what is printed of any bytes, of a way to print whether they are accepted and what they hold: Read's reasons come first, then Block's
-- with room for 120 tides; the contents are what the fields hold
unfoldable pub file_text : (Verdict → Contents → List ℕ) → List ℕ → List ℕ
file_text print file =
    let H = decoded file in
    print (first_of (read_reasons file ++ block_reasons H.study max_tides max_tides)) H

-- the sheet of any bytes
unfoldable pub sheet_of : List ℕ → List ℕ
sheet_of file = file_text printed file

-- what is printed of Block on a record and memory, with room for 120 tides
unfoldable pub blocked_text : State → List ℕ
blocked_text s = printed (answer s (makes_blocks (replicate max_tides 0) no_records)) (contents_of s)
