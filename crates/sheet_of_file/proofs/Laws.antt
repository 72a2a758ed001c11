-- Any text of a file, and the sheet, at each way out of the code: of a refused Read, and of Block on what an accepted one leaves. Assumes
-- nothing.
use Prim.Native.Nat.{ℕ}
use native.Mathlib.Omega.{arith}
use mathlib.Core.Path.{◌≡◌, refl, sym, ap, ap₂, ◌∙◌}
use mathlib.Core.Bool.{false}
use mathlib.Core.List.{List, ◌++◌}
use lib.ListN.{get_or, replicate, length-replicate}
use Rattle.std.specs.Prelude.{Result, Ok, Err}
use Rattle.lists.specs.Lists.{overwrite}
use Rattle.lists.proofs.Tests.{T_true}
use Rattle.study.specs.declared.BlockRecord.{BlockRecord}
use Rattle.study.specs.declared.Dataset.{Dataset}
use Rattle.study.specs.declared.Refusal.{Refusal}
use Rattle.study.specs.Study.{Contents}
use Rattle.study.specs.Refusals.{Numbered, numbered, Verdict, accepted, refused, verdict_of, settled, value, refusal, replied, first_of}
use Rattle.study.specs.Theorems.{ValidContents}
use Rattle.study.specs.declared.Figures.{Figures}
use Rattle.study.specs.Calls.{block_reasons, figures, block_record, blocked_of}
use Rattle.file_format.specs.File.{decoded, read_reasons}
use Rattle.study.proofs.ReasonLaws.{first_of_later, first_of_sooner}
use Rattle.file_format.proofs.Proofs.{files}
use Rattle.validity.specs.Memory.{State, state_of, short, is_dataset, contents_of, stored}
use Rattle.validity.proofs.Proofs.{for_datasets}
use Rattle.validity.proofs.LayoutLaws.{short_no}
use Rattle.access.specs.Calls.{holding_of, Output, Inquiry, Call, answer, reply, records_after, made, after}
use Rattle.access.specs.Passed.{Passed}
use Rattle.access.proofs.AccessLaws.{passed_by, leaves, source_own, inquiry_own, reply_tells, output_tells}
use Rattle.study_file.specs.Calls.{reads_file}
use Rattle.blocking.specs.Calls.{block_inquiry, figure_numbers, makes_blocks, blocked_reply}
use Rattle.blocking.specs.Rows.{no_record, no_records}
use Rattle.sheet_text.specs.Text.{refused_text, sheet_text}
use Rattle.sheet_text.proofs.LineLaws.{sheet_written}
use Rattle.sheet_of_file.specs.Sheet.{printed, file_text, sheet_of, blocked_text}

-- ---- Block's answer, printed with its records over blank ones

abbrev over_blank : Verdict → Contents → List ℕ
over_blank v H =
    let F = figures H.study in
    sheet_text (replied v F) (settled v (overwrite F.blocks (block_record H.study) no_records) no_records) H.withdrawals

over_blank_is : (v : Verdict) (H : Contents) → over_blank v H ≡ printed v H
over_blank_is accepted H = sheet_written (figures H.study) (block_record H.study) no_records H.withdrawals
over_blank_is (refused r) H = refl

-- figures are known by their numbers
figures_by : (a : Result Figures Refusal) (v : Verdict) (F : Figures) → blocked_reply a ≡ replied v (figure_numbers F) → blocked_of a ≡ replied v F
figures_by (Ok G) accepted F e =
    let ns : figure_numbers G ≡ figure_numbers F = cc in
    ap (λ (l : List ℕ). value (record { blocks = get_or l 0 0; radius = get_or l 1 0; widest = get_or l 2 0 })) ns
figures_by (Ok G) (refused x) F e = absurd (let z : ◌≡◌ {A = ℕ} 0 1 = cc in omega arith)
figures_by (Err r) accepted F e = absurd (let z : ◌≡◌ {A = ℕ} 0 1 = cc in omega arith)
figures_by (Err r) (refused x) F e = let z : numbered r ≡ x = cc in ap refusal z

-- as the code prints what Block answers and leaves
pub blocked_text_lem : (s : State) {list : List ℕ} (a : Result Figures Refusal) {rs : List BlockRecord} → list ≡ replicate 120 0
    → blocked_reply a ≡ reply s (makes_blocks list no_records) → rs ≡ records_after s (makes_blocks list no_records)
    → sheet_text (blocked_of a) rs s.dataset.withdrawn ≡ blocked_text s
unfolding blocked_text makes_blocks contents_of
blocked_text_lem s {list} a {rs} l e f =
    let H = contents_of s in
    let v = answer s (makes_blocks list no_records) in
    ap₂ (λ x y. sheet_text x y s.dataset.withdrawn) (figures_by a v (figures H.study) (e ∙ reply_tells s _))
    (f ∙ ap (λ (o : Output). o.records) (output_tells s _) ∙ part v)
    ∙ over_blank_is v H ∙ ap (λ x. printed (answer s (makes_blocks x no_records)) H) l
  where
    Q : Inquiry
    Q = block_inquiry (λ S. figure_numbers (figures S)) list no_records

    part : (v : Verdict) → let S = (contents_of s).study in
        (settled v (Q.tells (holding_of s)) Q.lent).records ≡ settled v (overwrite (figures S).blocks (block_record S) no_records) no_records
    part accepted = refl
    part (refused x) = refl

-- ---- a file, read over memory that is long enough

-- the memory that the code reads into
pub long_enough : (r : Dataset) → short (state_of r (replicate 14400 0) (replicate 120 0)) ≡ false
long_enough r =
    let d = length-replicate {A = ℕ} 14400 0 in
    let g = length-replicate {A = ℕ} 120 0 in
    short_no (state_of r (replicate 14400 0) (replicate 120 0)) (omega arith) (omega arith)

-- Block, lent a list and records for 120 tides
abbrev pub blank_block : Call
blank_block = makes_blocks (replicate 120 0) no_records

-- its own reasons answer
blank_answer : (s : State) → Passed s → answer s blank_block ≡ first_of (block_reasons (contents_of s).study 120 120)
unfolding makes_blocks no_records
blank_answer s P =
    sym (inquiry_own s _ P refl)
    ∙ ap₂ (λ n m. first_of (block_reasons (contents_of s).study n m)) (length-replicate {A = ℕ} 120 0) (length-replicate 120 no_record)

module _ (file : List ℕ) (over : State) (long : short over ≡ false) where
  abbrev H : Contents
  H = decoded file

  own : answer over (reads_file file) ≡ first_of (read_reasons file)
  unfolding reads_file
  own = sym (source_own over _ long)

  module _ (ok : first_of (read_reasons file) ≡ accepted) where
    valid : ValidContents H
    valid = files.valid file ok

    contents : contents_of (stored H over) ≡ H
    contents = for_datasets.read_back H over valid

    verdict_is : answer (stored H over) blank_block ≡ first_of (read_reasons file ++ block_reasons H.study 120 120)
    verdict_is =
        blank_answer (stored H over) (passed_by (stored H over) (for_datasets.as_long H over long ∙ long)
        (T_true (is_dataset (stored H over)) (for_datasets.laid_out H over valid)))
        ∙ ap (λ (C : Contents). first_of (block_reasons C.study 120 120)) contents
        ∙ sym (first_of_later (read_reasons file) (block_reasons H.study 120 120) ok)

-- ---- any text of a file: where Read refuses it, and where Read takes it

module _ (print : Verdict → Contents → List ℕ) where
  -- where a refusal prints alone
  module _ (alone : (r : Numbered) (H : Contents) → print (refused r) H ≡ refused_text r) where
    pub refused_alone : (file : List ℕ) {r : Numbered} → first_of (read_reasons file) ≡ refused r → file_text print file ≡ refused_text r
    unfolding file_text
    refused_alone file {r} e =
        let H = decoded file in
        ap (λ v. print v H) (first_of_sooner (read_reasons file) (block_reasons H.study 120 120) e) ∙ alone r H

    pub text_refused : (file : List ℕ) (over : State) → short over ≡ false → {a : Result Unit Refusal} → verdict_of a ≡ answer over (reads_file file)
        → {why : Refusal} → a ≡ Err why → refused_text (numbered why) ≡ file_text print file
    text_refused file over long told e = sym (refused_alone file (sym (own file over long) ∙ sym told ∙ ap verdict_of e))

  pub text_taken : (file : List ℕ) (over : State) → short over ≡ false → {a : Result Unit Refusal} → verdict_of a ≡ answer over (reads_file file)
      → {s : State} {u : Unit} → a ≡ Ok u → s ≡ after over (reads_file file) → print (answer s blank_block) (contents_of s) ≡ file_text print file
  unfolding made reads_file file_text
  text_taken file over long told {s} e f =
      let q : answer over (reads_file file) ≡ accepted = sym told ∙ ap verdict_of e in
      let ok = sym (own file over long) ∙ q in
      ap (λ t. print (answer t blank_block) (contents_of t)) (f ∙ sym (leaves over _ (sym q)))
      ∙ ap₂ print (verdict_is file over long ok) (contents file over long ok)

-- ---- the sheet

module _ (file : List ℕ) (over : State) (long : short over ≡ false) {a : Result Unit Refusal} (told : verdict_of a ≡ answer over (reads_file file)) where
  pub sheet_refused : {why : Refusal} → a ≡ Err why → refused_text (numbered why) ≡ sheet_of file
  unfolding sheet_of
  sheet_refused e = text_refused printed (λ r H. refl) file over long told e

  pub sheet_blocked : {s : State} {u : Unit} → a ≡ Ok u → s ≡ after over (reads_file file) → blocked_text s ≡ sheet_of file
  unfolding sheet_of blocked_text
  sheet_blocked {s} e f = text_taken printed file over long told e f
