-- What the inner functions promise each other. Assumes nothing.
use Rattle.std.specs.Prelude.{ℕ, ◌≤◌, ◌≡◌, List, length, take, Result, Ok, Err}
use Rattle.study.specs.declared.Refusal.{Refusal}
use Rattle.study.specs.Study.{Contents}
use Rattle.study.specs.Refusals.{Verdict, verdict_of, first_of}
use Rattle.file_format.specs.File.{decoded, read_reasons}
use Rattle.validity.specs.Memory.{State, contents_of}
use Rattle.access.specs.Passed.{Passed}
use Rattle.merge.specs.Merge.{merged, merge_reasons}
use Rattle.merge_text.specs.declared.JoinError.{JoinError}
use Rattle.merge_text.specs.declared.pairs.WrongLine.{WrongLine}
use Rattle.merge_text.specs.Pairs.{Reading, ended, stopped, pairs_of}
use Rattle.merge_text.specs.Joining.{Made, report_of, answered, written}

-- the pairs stand in the front of two lent lists
abbrev pub listed_of : Result ℕ WrongLine → List ℕ → List ℕ → Reading
listed_of (Ok n) firsts seconds = ended (record { firsts = take n firsts; seconds = take n seconds })
listed_of (Err w) firsts seconds = stopped w.line w.fault

-- a text was read into the lent lists, which have a place for each pair
pub record Lists (text : List ℕ) (r : Result ℕ WrongLine) (firsts seconds : List ℕ) : Type 0 where
  pub is : listed_of r firsts seconds ≡ pairs_of text
  pub few : (n : ℕ) → r ≡ Ok n → n ≤ 65536

-- a call that begins anew was answered by verdict v; accepted, it left a dataset with these contents
pub record Brings (v : Verdict) (H : Contents) (x : Result Unit Refusal) (t : State) : Type 0 where
  pub verdict : verdict_of x ≡ v
  pub passed : {done : Unit} → x ≡ Ok done → Passed t
  pub holds : {done : Unit} → x ≡ Ok done → contents_of t ≡ H

-- Read of a file: its own reasons, and the contents that its bytes stand for
abbrev pub FileRead : List ℕ → Result Unit Refusal → State → Type 0
FileRead file x t = Brings (first_of (read_reasons file)) (decoded file) x t

-- a merge: the reasons against it, and the merged contents
abbrev pub Merged : Contents → Contents → List ℕ → List ℕ → Result Unit Refusal → State → Type 0
Merged A B firsts seconds x t = Brings (first_of (merge_reasons A B firsts seconds)) (merged A B firsts seconds) x t

-- what is told and left of these contents, or of what is wrong
pub record Tells (m : Made) (r : Result ℕ JoinError) (bytes left : List ℕ) : Type 0 where
  pub told : report_of r ≡ answered m (length bytes)
  pub leaves : left ≡ written m bytes
