-- What stands in a file before its tides, as Read goes through it: each part gives what the file holds, or the refusal is Read's own. Assumes
-- nothing.
use Rattle.std.specs.Prelude.{ℕ, ◌+◌, ◌*◌, ◌^◌, ◌≤◌, ◌<◌, ◌≡◌, ◌⊎◌, List, length, replicate, Result, Ok, Err}
use Rattle.lists.specs.Lists.{overwrite}
use Rattle.study.specs.Limits.{max_tides, max_settings}
use Rattle.study.specs.declared.Dataset.{Dataset}
use Rattle.study.specs.declared.Refusal.{Refusal}
use Rattle.study.specs.Refusals.{accepted, refused, first_of, numbered}
use Rattle.file_format.specs.Bits.{bits_at}
use Rattle.file_format.specs.File.{new_mark, old_mark, counts_end, bit_length, mark_of, counts_in, decoded, head_reasons}
use Rattle.bit_reader.specs.declared.Place.{Place}
use Rattle.bit_reader.specs.Fields.{BitsRead}
use Rattle.validity.specs.Memory.{record_of}
use Rattle.file_fields.specs.declared.head.Start.{Start}

-- the file has its first six bytes, one of the two marks, and the bytes that its mark asks; so it carries c counts
pub record MarkRead (s : List ℕ) (c : ℕ) : Type 0 where
  pub six : 6 ≤ length s
  pub mark : (mark_of s ≡ new_mark) ⊎ (mark_of s ≡ old_mark)
  pub twelve : mark_of s ≡ new_mark → 12 ≤ length s
  pub counts : c ≡ counts_in s

-- and the 8 bits of its mark are read
pub record Marked (s : List ℕ) (c : ℕ) (p : Place) : Type 0 where
  pub marked : MarkRead s c
  pub here : BitsRead p 8

-- the reasons of the mark, the number of tides and k do not hold
pub record Begun (s : List ℕ) (c k n : ℕ) : Type 0 where
  pub marked : MarkRead s c
  pub tides : n ≡ bits_at s 8 7
  pub few : n ≤ max_tides
  pub k_is : k ≡ bits_at s 15 4
  pub low : 1 ≤ k
  pub high : k ≤ max_settings

-- the mark, the number of tides and k: 19 bits
pub record StartGot (s : List ℕ) (r : Result Start Refusal) (p : Place) : Type 0 where
  pub goes : {start : Start} → r ≡ Ok start → Begun s start.counts start.k start.n × BitsRead p 19
  pub stops : {why : Refusal} → r ≡ Err why → refused (numbered why) ≡ first_of (head_reasons s)

-- n fields of w bits begin at p and are inside the file, and there is room for their numbers
pub record RunBegins (s : List ℕ) (w n room : ℕ) (p : Place) : Type 0 where
  pub start : ℕ
  pub here : BitsRead p start
  pub inside : start + w * n ≤ 8 * length s
  pub low : start + w * n < 2 ^ 63
  pub wide : 1 ≤ w
  pub narrow : w ≤ 20
  pub fits : n ≤ room

-- the numbers in n fields of w bits, which begin after `start` bits, and zeros in the places past them
abbrev pub run_at : List ℕ → ℕ → ℕ → ℕ → ℕ → List ℕ
run_at s start w n room = overwrite n (λ i. bits_at s (start + w * i) w) (replicate room 0)

-- they are read
pub record RunRead (s : List ℕ) (start w n room : ℕ) (r : Result (List ℕ) Refusal) (p : Place) : Type 0 where
  pub is : r ≡ Ok (run_at s start w n room)
  pub here : BitsRead p (start + w * n)

-- the count of user i + 1 in a file
abbrev pub count_at : List ℕ → ℕ → ℕ
count_at s i = bits_at s (counts_end i) 16

-- where the minima of a file begin
abbrev pub minima_start : List ℕ → ℕ
minima_start s = counts_end (counts_in s)

-- minimum j + 1 of a file
abbrev pub minimum_at : List ℕ → ℕ → ℕ
minimum_at s j = bits_at s (minima_start s + 7 * j) 7

-- the rest of the record begins at p and is inside the file
pub record RecordBegins (s : List ℕ) (c k n : ℕ) (p : Place) : Type 0 where
  pub begun : Begun s c k n
  pub here : BitsRead p 19
  pub inside : counts_end c + 7 * k ≤ 8 * length s

-- next is the record with what the file gives, whatever stood there before, and the first tide begins at p
pub record HeadRecord (s : List ℕ) (next : Dataset) (p : Place) : Type 0 where
  pub is : (old : Dataset) → next ≡ record_of (decoded s) old
  pub first : BitsRead p (bit_length (counts_in s) (bits_at s 15 4) 0)

-- the record is read
pub record RecordRead (s : List ℕ) (r : Result Dataset Refusal) (p : Place) : Type 0 where
  pub dataset : Dataset
  pub is : r ≡ Ok dataset
  pub gives : HeadRecord s dataset p

-- the first of the reasons before any tide, or none and what the file gives
pub record HeadGot (s : List ℕ) (r : Result Dataset Refusal) (p : Place) : Type 0 where
  pub goes : {next : Dataset} → r ≡ Ok next → (accepted ≡ first_of (head_reasons s)) × HeadRecord s next p
  pub stops : {why : Refusal} → r ≡ Err why → refused (numbered why) ≡ first_of (head_reasons s)

-- the same of a whole file: none, and the record that it gives and the place of its first tide
abbrev pub HeadRead : List ℕ → Result (Dataset × Place) Refusal → Type 0
HeadRead s (Ok x) = (accepted ≡ first_of (head_reasons s)) × HeadRecord s x.0 x.1
HeadRead s (Err why) = refused (numbered why) ≡ first_of (head_reasons s)
