-- Files and datasets correspond one to one, of the definitions that the contracts of Read and Write cite. There are no proofs here;
-- `for_files` of Proofs.antt proves the record. Assumes nothing.
use Rattle.std.specs.Prelude.{ℕ, ◌≤◌, ◌≡◌, ◌⊎◌, false, List, [], ◌∷◌, T}
use Rattle.study.specs.Limits.{max_withdrawals}
use Rattle.study.specs.Study.{Study, Valid}
use Rattle.study.specs.Refusals.{accepted}
use Rattle.file_format.specs.File.{new_mark, old_mark, file_of, old_file, mark_of}
use Rattle.file_format.specs.Theorems.{Bytes, OldFile}
use Rattle.validity.specs.Memory.{State, short, is_dataset, contents_of}
use Rattle.access.specs.Calls.{anew, answer, after}
use Rattle.study_file.specs.Calls.{reads_file}

-- files and datasets correspond one to one
pub record ForFiles : Type 0 where
  -- Read accepts the file of a dataset, whatever it is read over, and gives that dataset
  pub accepts : (s over : State) → T (is_dataset s) → short over ≡ false → answer over (reads_file (file_of (contents_of s))) ≡ accepted
  pub gives : (s over : State) → T (is_dataset s) → short over ≡ false → after over (reads_file (file_of (contents_of s))) ≡ anew (contents_of s) over
  -- over its own memory, nothing changes
  pub again : (s : State) → T (is_dataset s) → short s ≡ false → after s (reads_file (file_of (contents_of s))) ≡ s
  -- what Read accepts gives a dataset; bytes of mark 55 are then exactly its file, bytes of mark 54 an old file of the same
  pub dataset : (over : State) (bytes : List ℕ) → answer over (reads_file bytes) ≡ accepted → T (is_dataset (after over (reads_file bytes)))
  pub marked : (over : State) (bytes : List ℕ) → answer over (reads_file bytes) ≡ accepted → (mark_of bytes ≡ new_mark) ⊎ (mark_of bytes ≡ old_mark)
  pub only : (over : State) (bytes : List ℕ) → Bytes bytes → answer over (reads_file bytes) ≡ accepted → mark_of bytes ≡ new_mark
      → file_of (contents_of (after over (reads_file bytes))) ≡ bytes
  pub old_only : (over : State) (bytes : List ℕ) → Bytes bytes → answer over (reads_file bytes) ≡ accepted → mark_of bytes ≡ old_mark
      → OldFile bytes (contents_of (after over (reads_file bytes)))
  -- every file of mark 54 of a valid study is still read: to that study, with the count as user 1's
  pub old_accepts : (over : State) (count : ℕ) (S : Study) → short over ≡ false → count ≤ max_withdrawals → Valid S
      → answer over (reads_file (old_file count S)) ≡ accepted
  pub old_gives : (over : State) (count : ℕ) (S : Study) → short over ≡ false → count ≤ max_withdrawals → Valid S
      → contents_of (after over (reads_file (old_file count S))) ≡ record { study = S; withdrawals = count ∷ 0 ∷ 0 ∷ 0 ∷ [] }
