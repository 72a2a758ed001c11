-- Two study files and the text of their pairs into the file of the merged study (document 02, 2.9: two books joined at their shared tides): what
-- is told of them, and what is left of the lent bytes. Assumes nothing.
use Rattle.std.specs.Prelude.{ℕ, cond, List, ltb, length, Result, Ok, Err}
use Rattle.lists.specs.Lists.{over}
use Rattle.study.specs.Study.{Contents}
use Rattle.study.specs.Refusals.{Numbered, number, numbered, Verdict, accepted, refused, first_of}
use Rattle.file_format.specs.File.{file_of, decoded, read_reasons}
use Rattle.merge.specs.Merge.{merged, merge_reasons}
use Rattle.merge_text.specs.declared.Fault.{Fault}
use Rattle.merge_text.specs.declared.Fault.TheVariants as FaultCase
use Rattle.merge_text.specs.declared.JoinError.{JoinError}
use Rattle.merge_text.specs.declared.JoinError.TheVariants as JoinErrorCase
use Rattle.merge_text.specs.Pairs.{Reading, going, ended, stopped, pairs_of}

-- what is told: the merged file's length; why Read refuses the first file, or the second; a line of the text and what is wrong there; or why
-- the merge is refused
pub data Report : Type 0 where
  done : ℕ → Report
  first_refused : Numbered → Report
  second_refused : Numbered → Report
  wrong_line : ℕ → Fault → Report
  merge_refused : Numbered → Report

-- the code's answer, by the documents' numbers
abbrev pub report_of : Result ℕ JoinError → Report
report_of (Ok n) = done n
report_of (Err (JoinErrorCase.FirstRefused r)) = first_refused (numbered r)
report_of (Err (JoinErrorCase.SecondRefused r)) = second_refused (numbered r)
report_of (Err (JoinErrorCase.WrongLine l f)) = wrong_line l f
report_of (Err (JoinErrorCase.Refused r)) = merge_refused (numbered r)

-- ---- the merged contents

-- what the merged dataset holds, or what is wrong
pub data Made : Type 0 where
  made : Contents → Made
  wrong : Report → Made

-- a refusal, told in this way; otherwise the rest counts
abbrev pub unless : Verdict → (Numbered → Report) → Made → Made
unless accepted tell rest = rest
unless (refused r) tell rest = wrong (tell r)

-- the merge by the pairs that were read. No text is still going on where it has been read
abbrev pub merged_by : Contents → Contents → Reading → Made
merged_by A B (ended P) =
    unless (first_of (merge_reasons A B P.firsts P.seconds)) merge_refused (made (merged A B P.firsts P.seconds))
merged_by A B (stopped l f) = wrong (wrong_line l f)
merged_by A B (going P l c) = wrong (wrong_line l FaultCase.TooLong)

-- of any bytes: Read's reasons of the first file and then of the second, then the text of the pairs, then the merge's reasons
unfoldable pub joined : List ℕ → List ℕ → List ℕ → Made
joined first second pairs =
    unless (first_of (read_reasons first)) first_refused
    (unless (first_of (read_reasons second)) second_refused (merged_by (decoded first) (decoded second) (pairs_of pairs)))

-- ---- its file

-- the file's length; 1 where it is lent less room
abbrev pub answered : Made → ℕ → Report
answered (made H) room = cond (ltb room (length (file_of H))) (merge_refused (number 1)) (done (length (file_of H)))
answered (wrong t) room = t

-- the lent bytes: the file over their front; all stay where something is wrong
abbrev pub written : Made → List ℕ → List ℕ
written (made H) bytes = cond (ltb (length bytes) (length (file_of H))) bytes (over (file_of H) bytes)
written (wrong t) bytes = bytes

-- what is told
unfoldable pub join_answer : List ℕ → List ℕ → List ℕ → ℕ → Report
join_answer first second pairs room = answered (joined first second pairs) room

-- what is left of the lent bytes
unfoldable pub join_leaves : List ℕ → List ℕ → List ℕ → List ℕ → List ℕ
join_leaves first second pairs bytes = written (joined first second pairs) bytes
