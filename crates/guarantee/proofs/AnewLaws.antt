-- An accepted call that begins anew counts as a Read of the file of what it brings in. Assumes nothing.
use Prim.Native.Nat.{ℕ}
use mathlib.Core.Path.{◌≡◌, sym, ap, ◌∙◌}
use mathlib.Core.List.{List, ◌∷◌, ◌++◌}
use mathlib.Core.Option.{some}
use Rattle.study.specs.Study.{Contents}
use Rattle.study.specs.Refusals.{accepted}
use Rattle.study.specs.Theorems.{ValidContents}
use Rattle.file_format.specs.File.{file_of, decoded}
use Rattle.file_format.proofs.Proofs.{files}
use Rattle.validity.specs.Memory.{State}
use Rattle.access.specs.Calls.{fresh, held, anew, answer, made, after}
use Rattle.access.proofs.AccessLaws.{leaves, source_own}
use Rattle.study_file.specs.Calls.{reads_file}
use Rattle.guarantee.specs.Runs.{Offered, read_file, call_of, brings_in, run}
use Rattle.guarantee.specs.Theorems.{AsRead}
use Rattle.guarantee.proofs.Follows.{held_some, holds_valid, BeginsWith, begins_with, held_accepted, run_append, holds}
use Rattle.guarantee.proofs.LedgerLaws.{begun_anew}
use Rattle.guarantee.proofs.CountLaws.{stretch_anew}

module _ (start : State) (before since : List Offered) (c : Offered) (C : Contents) (brings : brings_in (call_of c) ≡ some C)
    (a : answer (run start before) (call_of c) ≡ accepted) where
  abbrev s : State
  s = run start before

  abbrev file : List ℕ
  file = file_of C

  anew_with : BeginsWith s (call_of c) C
  anew_with = begins_with s (call_of c) C brings

  -- what it brings in is then held, so it is valid
  valid : ValidContents C
  valid = holds_valid (held_some (after s (call_of c)) (fresh C) (held_accepted s c a ∙ anew_with.changed (held s)))

  -- its file holds it
  back : decoded file ≡ C
  back = files.gives C valid

  reads : answer s (reads_file file) ≡ accepted
  unfolding reads_file
  reads = sym (source_own s _ (anew_with.long a)) ∙ files.accepts C valid

  read_brings : brings_in (call_of (read_file file)) ≡ some C
  unfolding call_of reads_file
  read_brings = ap some back

  read_made : anew C s ≡ made s (reads_file file)
  unfolding reads_file made
  read_made = ap (λ D. anew D s) (sym back)

  one_call : after s (call_of c) ≡ after s (reads_file file)
  one_call = sym (leaves s (call_of c) (sym a)) ∙ anew_with.made ∙ read_made ∙ leaves s (reads_file file) (sym reads)

  same_run : run start (before ++ (c ∷ since)) ≡ run start (before ++ (read_file file ∷ since))
  unfolding run call_of
  same_run =
      run_append start before (c ∷ since) ∙ ap (λ t. run t since) one_call ∙ sym (run_append start before (read_file file ∷ since))

  pub as_read : AsRead start before since c file
  unfolding call_of
  as_read =
      record {
        accepts = reads;
        leaves = same_run;
        holds = sym (holds start (before ++ (c ∷ since))) ∙ ap held same_run ∙ holds start (before ++ (read_file file ∷ since));
        ledger = begun_anew start before since c C brings a ∙ sym (begun_anew start before since (read_file file) C read_brings reads);
        stretch = stretch_anew start before since c C brings a ∙ sym (stretch_anew start before since (read_file file) C read_brings reads);
      }
