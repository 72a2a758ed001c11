-- What a program that reads a text writes. Assumes nothing.
use Rattle.std.specs.Prelude.{ℕ, List, [], ◌++◌, take, codes, Result, Ok, Err}
use Rattle.std.specs.Fmt.{decimal}
use Rattle.study.specs.declared.Refusal.{Refusal}
use Rattle.study.specs.Refusals.{numbered}
use Rattle.study.specs.Numbers.{number_of}
use Rattle.study_text.specs.declared.TextError.{TextError}
use Rattle.study_text.specs.declared.TextError.TheVariants.{Refused, NotANumber, TooLarge, Missing, TooLong}

-- a line of the text, and what is wrong there
abbrev pub said : ℕ → List ℕ → List ℕ
said line words = codes "line " ++ (decimal line ++ (codes ": " ++ words))

-- what is refused, and the refusal's number
abbrev pub said_refused : List ℕ → Refusal → List ℕ
said_refused what why = what ++ (codes "refused " ++ (decimal (number_of (numbered why)) ++ codes "\n"))

-- to the output: as many of the bytes as were made of the text
abbrev pub output_of : Result ℕ TextError → List ℕ → List ℕ
output_of (Ok n) bytes = take n bytes
output_of (Err e) bytes = []

-- to the error output: one line about what is wrong
abbrev pub error_of : Result ℕ TextError → List ℕ
error_of (Ok n) = []
error_of (Err (Refused line why)) = said line [] ++ said_refused [] why
error_of (Err (NotANumber line)) = said line (codes "not a number\n")
error_of (Err (TooLarge line)) = said line (codes "number too large\n")
error_of (Err (Missing line)) = said line (codes "number missing\n")
error_of (Err (TooLong line)) = said line (codes "text too long\n")
