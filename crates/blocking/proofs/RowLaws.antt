-- The rows of an accepted Block hold the records of the study's blocks, and no more: put over a list of any record, they leave what Block
-- leaves there. Assumes nothing.
use Rattle.std.specs.Prelude.{◌≡◌, ℕ, zero, suc, ◌<◌, ◌≤◌, List, length, get_or, replicate}
use native.Mathlib.Nat.{le_refl}
use native.Mathlib.Omega.{arith}
use mathlib.Core.Path.{refl, sym, ap, ◌∙◌}
use mathlib.Core.Logic.{⊎_elim}
use lib.ListN.{length-replicate}
use Rattle.lists.specs.Lists.{overwrite}
use Rattle.lists.proofs.Tests.{split}
use Rattle.lists.proofs.Tables.{getD_overwrite, get_d_past}
use Rattle.study.specs.declared.BlockRecord.{BlockRecord}
use Rattle.study.specs.Study.{Study}
use Rattle.study.specs.Refusals.{accepted}
use Rattle.study.specs.Calls.{figures, block_record}
use Rattle.validity.specs.Memory.{State, study_of, contents_of}
use Rattle.blocking.specs.declared.block.BlockRows.{BlockRows}
use Rattle.access.specs.Calls.{Output}
use Rattle.access.proofs.AccessLaws.{inquiry_passed, writes}
use Rattle.blocking.specs.Calls.{makes_blocks}
use Rattle.blocking.specs.Accepted.{block_answer}
use Rattle.blocking.proofs.BlockLaws.{made_answer}
use Rattle.blocking.specs.Rows.{row_record, RowsOf}

same_at : (n i : ℕ) (x : BlockRecord) → get_or (replicate n x) i x ≡ x
same_at zero i x = refl
same_at (suc n) zero x = refl
same_at (suc n) (suc i) x = same_at n i x

module _ {s : State} (list : List ℕ) {room : ℕ} {rows : BlockRows} (R : RowsOf s (makes_blocks list) room rows)
    (ok : block_answer s (length list) room ≡ accepted) where
  abbrev S : Study
  S = study_of s

  -- a record that differs from others by its centre
  abbrev mark : ℕ → BlockRecord
  mark c = record { centre = c; tides = 0; diameter = 0 }

  abbrev marks : ℕ → List BlockRecord
  marks c = replicate room (mark c)

  put : (c : ℕ) → overwrite rows.count (row_record rows) (marks c) ≡ overwrite (figures S).blocks (block_record S) (marks c)
  unfolding makes_blocks contents_of
  put c =
      let e : length (marks c) ≡ room = length-replicate room (mark c) in
      let a = sym (made_answer s list (marks c) e) ∙ ok in
      R.records (marks c) e ∙ ap (λ (o : Output). o.records) (sym (writes s _ (inquiry_passed s _ a) (sym a)))

  put_at : (c i : ℕ)
      → get_or (overwrite rows.count (row_record rows) (marks c)) i (mark c) ≡ get_or (overwrite (figures S).blocks (block_record S) (marks c)) i (mark c)
  put_at c i = ap (λ l. get_or l i (mark c)) (put c)

  -- past a count the marks stay
  stays : (n : ℕ) (f : ℕ → BlockRecord) (c i : ℕ) → n ≤ i → get_or (overwrite n f (marks c)) i (mark c) ≡ mark c
  stays n f c i l = get_d_past f (marks c) n i (mark c) l ∙ same_at room i (mark c)

  -- no record is marked in two ways
  not_both : (x : BlockRecord) → ((c : ℕ) → x ≡ mark c) → ⊥
  not_both x h = let z = ap (λ (y : BlockRecord). y.centre) (sym (h 0) ∙ h 1) in omega arith

  pub rows_count : rows.count ≡ (figures S).blocks
  rows_count =
      ⊎_elim (λ l. absurd (not_both (block_record S rows.count) (fewer l)))
      (λ l. ⊎_elim (λ k. absurd (not_both (row_record rows (figures S).blocks) (more k))) (λ k. omega arith) (split (figures S).blocks rows.count))
      (split rows.count (figures S).blocks)
    where
      fewer : rows.count < (figures S).blocks → (c : ℕ) → block_record S rows.count ≡ mark c
      fewer l c =
          let i = rows.count in
          sym (getD_overwrite (block_record S) (marks c) (figures S).blocks i (mark c) l) ∙ sym (put_at c i)
          ∙ stays rows.count (row_record rows) c i (le_refl i)

      more : (figures S).blocks < rows.count → (c : ℕ) → row_record rows (figures S).blocks ≡ mark c
      more l c =
          let i = (figures S).blocks in
          sym (getD_overwrite (row_record rows) (marks c) rows.count i (mark c) l) ∙ put_at c i ∙ stays i (block_record S) c i (le_refl i)

  pub row_is : (i : ℕ) → i < rows.count → row_record rows i ≡ block_record S i
  row_is i l =
      sym (getD_overwrite (row_record rows) (marks 0) rows.count i (mark 0) l) ∙ put_at 0 i
      ∙ getD_overwrite (block_record S) (marks 0) (figures S).blocks i (mark 0) (omega (arith, rows_count))
