-- Demand 1, and the last sentence of demand 2: the first reason that holds, what a refused call leaves, and that files and datasets
-- correspond. Assumes nothing.
use Prim.Native.Nat.{ℕ, ◌≤◌}
use mathlib.Core.Path.{◌≡◌, refl, sym, ap, ap₂, ◌∙◌, subst}
use mathlib.Core.Bool.{false}
use mathlib.Core.List.{List, [], ◌∷◌}
use lib.Dec.{T, ltb}
use lib.Arith.{le→nltb}
use lib.ListN.{length, take, drop, get_or}
use lib.Seq.{take-append_seam}
use Rattle.lists.specs.Lists.{over}
use Rattle.lists.proofs.Tests.{T_true, true-T, T_false}
use Rattle.study.specs.Refusals.{Numbered, Verdict, accepted, refused, settled, replied, first_of, IsFirst}
use Rattle.study.proofs.ReasonLaws.{is_first, only_first}
use Rattle.study.proofs.CallLaws.{reply_value}
use Rattle.file_format.specs.File.{new_mark, file_of, mark_of, decoded}
use Rattle.file_format.specs.Theorems.{Bytes}
use Rattle.validity.specs.Memory.{State, short, is_dataset, contents_of}
use Rattle.validity.proofs.Proofs.{for_datasets}
use Rattle.access.specs.Calls.{nobody, Inquiry, Output, first_list, Call, asks, held, reasons, verdict, lent, answer, output, made, after}
use Rattle.access.proofs.AccessLaws.{HeldAccepted, passed_by, answer_is, unmoved, leaves, source_accepted, inquiry_own, inquiry_accepted, inquiry_passed}
use Rattle.access.proofs.AccessLaws.{writes, reply_tells}
use Rattle.access.proofs.AccessLaws.{unwritten as lent_stays}
use Rattle.study_file.specs.Calls.{reads_file, write_reasons, writes_file}
use Rattle.study_file.proofs.Proofs.{for_files}
use Rattle.guarantee.specs.Theorems.{Wrote, FilesAndDatasets}

-- ---- what a call answers and leaves

module _ (s : State) (c : Call) where
  pub first : IsFirst (reasons (short s) (held s) c) (answer s c)
  unfolding verdict
  first = subst (IsFirst (reasons (short s) (held s) c)) (sym (answer_is s c)) (is_first (reasons (short s) (held s) c))

  pub only : (v : Verdict) → IsFirst (reasons (short s) (held s) c) v → v ≡ answer s c
  unfolding verdict
  only v f = only_first (reasons (short s) (held s) c) v f ∙ sym (answer_is s c)

  pub unchanged : (r : Numbered) → answer s c ≡ refused r → after s c ≡ s
  unchanged r e = sym (unmoved s c (sym e))

  pub unwritten : (r : Numbered) → answer s c ≡ refused r → output s c ≡ lent c
  unwritten r e = sym (lent_stays s c (sym e))

pub only_reads : (s : State) (Q : Inquiry) → after s (asks Q) ≡ s
unfolding after made
only_reads s Q = same (answer s (asks Q))
  where
    same : (v : Verdict) → settled v s s ≡ s
    same accepted = refl
    same (refused r) = refl

-- ---- files and datasets

-- Write is accepted: it writes the file of a dataset
module _ (s : State) (bytes left : List ℕ) (n : ℕ) (e : Wrote s bytes n left) where
  abbrev written : List ℕ
  written = file_of (contents_of s)

  accepts : (answer s (writes_file bytes) ≡ accepted) × (n ≡ length written)
  unfolding writes_file
  accepts =
      let w = reply_value (answer s (writes_file bytes)) (length written ∷ []) (sym e.replied ∙ reply_tells s _) in
      (w.0, ap (λ (l : List ℕ). get_or l 0 0) w.1)

  good : HeldAccepted s nobody (λ H. write_reasons H.contents (length bytes))
  unfolding writes_file
  good = inquiry_accepted s _ accepts.0

  a_dataset : T (is_dataset s)
  a_dataset = true-T (is_dataset s) good.tested

  left_is : left ≡ over written bytes
  unfolding writes_file
  left_is =
      sym e.leaves
      ∙ ap (λ (o : Output). first_list o.lists) (sym (writes s _ (inquiry_passed s _ accepts.0) (sym accepts.0)))

  file_is : take n left ≡ written
  file_is = ap₂ (λ (k : ℕ) l. take k l) accepts.1 left_is ∙ take-append_seam written (drop (length written) bytes)

  same : after s (reads_file (take n left)) ≡ s
  same = ap (λ f. after s (reads_file f)) file_is ∙ for_files.again s a_dataset good.not_short

  read_back : (onto : State) → short onto ≡ false
      → let read = after onto (reads_file (take n left)) in T (is_dataset read) × (contents_of read ≡ contents_of s)
  read_back onto long =
      let valid = for_datasets.valid s a_dataset in
      let laid = ap (λ f. after onto (reads_file f)) file_is ∙ for_files.gives s onto a_dataset long in (
        subst (λ z. T (is_dataset z)) (sym laid) (for_datasets.laid_out (contents_of s) onto valid),
        ap contents_of laid ∙ for_datasets.read_back (contents_of s) onto valid,
      )

-- Read accepts a file of mark 55, and there is room for it
module _ (onto : State) (file bytes : List ℕ) (b : Bytes file) (e : answer onto (reads_file file) ≡ accepted) (m : mark_of file ≡ new_mark)
    (room : length file ≤ length bytes) where
  abbrev read : State
  read = after onto (reads_file file)

  not_short : short read ≡ false
  unfolding reads_file made
  not_short =
      let long = (source_accepted onto _ e).0 in
      ap short (sym (leaves onto _ (sym e))) ∙ for_datasets.as_long (decoded file) onto long ∙ long

  own_file : file_of (contents_of read) ≡ file
  own_file = for_files.only onto file b e m

  write_accepted : answer read (writes_file bytes) ≡ accepted
  unfolding writes_file write_reasons first_of
  write_accepted =
      sym (inquiry_own read _ (passed_by read not_short (T_true (is_dataset read) (for_files.dataset onto file e))) refl)
      ∙ rw (T_false (ltb (length bytes) (length (file_of (contents_of read)))) (le→nltb _ _ (subst (λ l. length l ≤ length bytes) (sym own_file) room)))

  written_again : (left : List ℕ) × Wrote read bytes (length file) left × (take (length file) left ≡ file)
  unfolding writes_file
  written_again = (
    over file bytes,
    record {
      replied = reply_tells read _ ∙ ap₂ (λ v (l : List ℕ). replied v (length l ∷ [])) write_accepted own_file;
      leaves = ap (λ (o : Output). first_list o.lists) (sym (writes read _ (inquiry_passed read _ write_accepted) (sym write_accepted)))
          ∙ ap (λ l. over l bytes) own_file;
    },
    take-append_seam file (drop (length file) bytes),
  )

pub files_and_datasets : FilesAndDatasets
files_and_datasets =
    record {
      same = same;
      read_back = λ s onto bytes left n e. read_back s bytes left n e onto;
      marked = for_files.marked;
      written_again = written_again;
      from_old_file = for_files.old_only;
      old_read = λ onto count S long few ok. (for_files.old_accepts onto count S long few ok, for_files.old_gives onto count S long few ok);
    }
