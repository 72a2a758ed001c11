-- The record of Theorems.antt, proved. Assumes nothing.
use Prim.Native.Nat.{ℕ, ◌≤◌}
use mathlib.Core.Path.{◌≡◌, sym, ap, ◌∙◌, subst}
use mathlib.Core.Bool.{false}
use mathlib.Core.List.{List, [], ◌∷◌}
use lib.Dec.{T}
use Rattle.study.specs.Limits.{max_withdrawals}
use Rattle.study.specs.Study.{Study, Valid}
use Rattle.study.specs.Refusals.{accepted, first_of}
use Rattle.study.specs.Theorems.{ValidContents}
use Rattle.file_format.specs.File.{new_mark, old_mark, file_of, old_file, mark_of, decoded, read_reasons}
use Rattle.file_format.specs.Theorems.{Bytes, OldFile}
use Rattle.file_format.proofs.Proofs.{files}
use Rattle.validity.specs.Memory.{State, short, is_dataset, contents_of}
use Rattle.validity.proofs.Proofs.{for_datasets}
use Rattle.access.specs.Calls.{anew, answer, made, after}
use Rattle.access.proofs.AccessLaws.{source_own, source_accepted}
use Rattle.access.proofs.AccessLaws.{leaves as call_leaves}
use Rattle.study_file.specs.Calls.{reads_file}
use Rattle.study_file.specs.Theorems.{ForFiles}

-- an accepted Read leaves the contents of its file
leaves : (over : State) (bytes : List ℕ) → answer over (reads_file bytes) ≡ accepted → after over (reads_file bytes) ≡ anew (decoded bytes) over
unfolding made reads_file
leaves over bytes e = sym (call_leaves over (reads_file bytes) (sym e))

-- what it accepts has no reason against it
own : (over : State) (bytes : List ℕ) → answer over (reads_file bytes) ≡ accepted → first_of (read_reasons bytes) ≡ accepted
unfolding reads_file
own over bytes e = (source_accepted over _ e).1

module _ (s over : State) (t : T (is_dataset s)) (e : short over ≡ false) where
  abbrev valid : ValidContents (contents_of s)
  valid = for_datasets.valid s t

  accepts : answer over (reads_file (file_of (contents_of s))) ≡ accepted
  unfolding reads_file
  accepts = sym (source_own over _ e) ∙ files.accepts (contents_of s) valid

  gives : after over (reads_file (file_of (contents_of s))) ≡ anew (contents_of s) over
  gives = leaves over (file_of (contents_of s)) accepts ∙ ap (λ H. anew H over) (files.gives (contents_of s) valid)

module _ (over : State) (bytes : List ℕ) (e : answer over (reads_file bytes) ≡ accepted) where
  abbrev held : ValidContents (decoded bytes)
  held = files.valid bytes (own over bytes e)

  dataset : T (is_dataset (after over (reads_file bytes)))
  dataset = subst (λ z. T (is_dataset z)) (sym (leaves over bytes e)) (for_datasets.laid_out (decoded bytes) over held)

  -- the dataset holds what the bytes hold
  holds : contents_of (after over (reads_file bytes)) ≡ decoded bytes
  holds = ap contents_of (leaves over bytes e) ∙ for_datasets.read_back (decoded bytes) over held

  only : Bytes bytes → mark_of bytes ≡ new_mark → file_of (contents_of (after over (reads_file bytes))) ≡ bytes
  only b m = ap file_of holds ∙ files.only bytes b (own over bytes e) m

  old_only : Bytes bytes → mark_of bytes ≡ old_mark → OldFile bytes (contents_of (after over (reads_file bytes)))
  old_only b m = subst (OldFile bytes) (sym holds) (files.old_only bytes b (own over bytes e) m)

-- an old file of a valid study
module _ (over : State) (count : ℕ) (S : Study) (e : short over ≡ false) (l : count ≤ max_withdrawals) (ok : Valid S) where
  old_accepts : answer over (reads_file (old_file count S)) ≡ accepted
  unfolding reads_file
  old_accepts = sym (source_own over _ e) ∙ files.old_accepts count S l ok

  old_gives : contents_of (after over (reads_file (old_file count S))) ≡ record { study = S; withdrawals = count ∷ 0 ∷ 0 ∷ 0 ∷ [] }
  old_gives = holds over (old_file count S) old_accepts ∙ files.old_gives count S l ok

pub for_files : ForFiles
for_files =
    record {
      accepts = accepts;
      gives = gives;
      again = λ s t e. gives s s t e ∙ for_datasets.own_layout s e t;
      dataset = dataset;
      marked = λ over bytes e. files.marked bytes (own over bytes e);
      only = λ over bytes b e. only over bytes e b;
      old_only = λ over bytes b e. old_only over bytes e b;
      old_accepts = old_accepts;
      old_gives = old_gives;
    }
