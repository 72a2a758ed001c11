-- Files and contents correspond one to one; there are no proofs here. `files` of Proofs.antt proves the record. Assumes nothing.
use Rattle.std.specs.Prelude.{ℕ, ◌≤◌, ◌<◌, ◌≡◌, ◌⊎◌, List, [], ◌∷◌, length, get_or}
use Rattle.study.specs.Limits.{max_tides, max_users, max_withdrawals}
use Rattle.study.specs.Study.{Study, Contents, size, Valid}
use Rattle.study.specs.Refusals.{accepted, first_of}
use Rattle.study.specs.Theorems.{ValidContents}
use Rattle.file_format.specs.File.{new_mark, old_mark, file_with, file_of, old_file, byte_length, mark_of, decoded, read_reasons}

-- each is a byte
abbrev pub Bytes : List ℕ → Type 0
Bytes s = (i : ℕ) → get_or s i 0 < 256

-- bytes of mark 54 and what they hold: document 01's file of a study and a count, read as user 1's. The contents' own file says the same
-- of k, minima, tides and counts
pub record OldFile (s : List ℕ) (H : Contents) : Type 0 where
  pub count : ℕ
  pub was : old_file count H.study ≡ s
  pub counts : H.withdrawals ≡ count ∷ 0 ∷ 0 ∷ 0 ∷ []
  pub own_file : file_of H ≡ file_with new_mark (count ∷ 0 ∷ 0 ∷ 0 ∷ []) H.study

-- files and valid contents correspond one to one: contents have one file, of mark 55
pub record Files : Type 0 where
  pub bytes : (H : Contents) → ValidContents H → Bytes (file_of H)
  pub file_length : (H : Contents) → ValidContents H → length (file_of H) ≡ byte_length max_users H.study.k (size H.study)
  -- the greatest file has 17,914 bytes
  pub greatest : byte_length max_users 8 max_tides ≡ 17914
  -- reading the file of valid contents gives them back
  pub accepts : (H : Contents) → ValidContents H → first_of (read_reasons (file_of H)) ≡ accepted
  pub gives : (H : Contents) → ValidContents H → decoded (file_of H) ≡ H
  -- what Read accepts holds valid contents and has one of the two marks
  pub valid : (s : List ℕ) → first_of (read_reasons s) ≡ accepted → ValidContents (decoded s)
  pub marked : (s : List ℕ) → first_of (read_reasons s) ≡ accepted → (mark_of s ≡ new_mark) ⊎ (mark_of s ≡ old_mark)
  -- bytes of mark 55 are then the file of the contents, bytes of mark 54 an old one
  pub only : (s : List ℕ) → Bytes s → first_of (read_reasons s) ≡ accepted → mark_of s ≡ new_mark → file_of (decoded s) ≡ s
  pub old_only : (s : List ℕ) → Bytes s → first_of (read_reasons s) ≡ accepted → mark_of s ≡ old_mark → OldFile s (decoded s)
  -- and every old file is still read
  pub old_accepts : (w : ℕ) (S : Study) → w ≤ max_withdrawals → Valid S → first_of (read_reasons (old_file w S)) ≡ accepted
  pub old_gives : (w : ℕ) (S : Study) → w ≤ max_withdrawals → Valid S
      → decoded (old_file w S) ≡ record { study = S; withdrawals = w ∷ 0 ∷ 0 ∷ 0 ∷ [] }
