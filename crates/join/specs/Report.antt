-- What join writes of a merge. Assumes nothing.
use Rattle.std.specs.Prelude.{ℕ, List, [], take, codes, Result, Ok, Err}
use Rattle.merge_text.specs.declared.Fault.{Fault}
use Rattle.merge_text.specs.declared.Fault.TheVariants.{NotANumber, TooLarge, Missing, TooMany, TooLong}
use Rattle.merge_text.specs.declared.JoinError.{JoinError}
use Rattle.merge_text.specs.declared.JoinError.TheVariants.{FirstRefused, SecondRefused, WrongLine, Refused}
use Rattle.text_report.specs.Report.{said, said_refused}

-- what is wrong with a line of the pairs' text
abbrev pub words_of : Fault → List ℕ
words_of NotANumber = codes "not a number\n"
words_of TooLarge = codes "number too large\n"
words_of Missing = codes "number missing\n"
words_of TooMany = codes "more than two numbers\n"
words_of TooLong = codes "text too long\n"

-- to the output: as many of the bytes as the merged file has
abbrev pub output_of : Result ℕ JoinError → List ℕ → List ℕ
output_of (Ok n) bytes = take n bytes
output_of (Err e) bytes = []

-- to the error output: one line about what is wrong
abbrev pub error_of : Result ℕ JoinError → List ℕ
error_of (Ok n) = []
error_of (Err (FirstRefused why)) = said_refused (codes "first: ") why
error_of (Err (SecondRefused why)) = said_refused (codes "second: ") why
error_of (Err (WrongLine line fault)) = said line (words_of fault)
error_of (Err (Refused why)) = said_refused [] why
