-- Write's answer and what it leaves, at each way out of the code. Assumes nothing.
use Prim.Native.Nat.{ℕ, ◌≤◌, ◌<◌}
use native.Mathlib.Omega.{arith}
use mathlib.Core.Path.{◌≡◌, refl, sym, ap, ◌∙◌, subst}
use mathlib.Core.Bool.{Bool, true, false, cond}
use mathlib.Core.List.{List, [], ◌∷◌}
use lib.Dec.{ltb, lt→ltb}
use lib.Arith.{le→nltb}
use lib.ListN.{length}
use Rattle.std.specs.Prelude.{Result, Err}
use Rattle.lists.proofs.Tests.{T_true, T_false}
use Rattle.study.specs.declared.Refusal.{Refusal}
use Rattle.study.specs.Study.{Contents}
use Rattle.study.specs.Refusals.{number, Numbered, accepted, refused, value, refusal, numbered, first_of}
use Rattle.file_format.specs.File.{file_of, byte_length}
use Rattle.file_format.proofs.WrittenLaws.{file_length}
use Rattle.validity.specs.Memory.{State, study_of, contents_of}
use Rattle.validity.proofs.ValidityLaws.{study_size}
use Rattle.access.specs.Calls.{nobody, Output, first_list, lent, answer, reply, list_after}
use Rattle.access.specs.Passed.{Passed, held_answer}
use Rattle.access.proofs.AccessLaws.{held_refused, passed_valid, inquiry_answer, inquiry_own, replies_refusal, unwritten, replies, writes}
use Rattle.study_file.specs.Calls.{write_reasons, writes_file, written_of}
use Rattle.file_fields.specs.Putting.{PutFields, Writable, file_fields}
use Rattle.file_fields.proofs.PuttingLaws.{file_written}

-- a refused call answers no length, and leaves the lent bytes
module _ (σ : State) (file : List ℕ) where
  refuses : {x : Numbered} → refused x ≡ answer σ (writes_file file)
      → (refusal x ≡ reply σ (writes_file file)) × (file ≡ list_after σ (writes_file file))
  unfolding writes_file lent
  refuses e = (replies_refusal σ (writes_file file) e, ap (λ (o : Output). first_list o.lists) (unwritten σ (writes_file file) e))

  -- short memory, or no dataset
  pub write_refused : {r : Result ℕ Refusal} {why : Refusal} → r ≡ Err why → refused (numbered why) ≡ held_answer σ nobody (λ _. [])
      → (written_of r ≡ reply σ (writes_file file)) × (file ≡ list_after σ (writes_file file))
  unfolding writes_file
  write_refused e f =
      let told = refuses (held_refused σ nobody _ f ∙ sym (inquiry_answer σ _)) in (ap written_of e ∙ told.0, told.1)

module _ {σ : State} (P : Passed σ) where
  abbrev H : Contents
  H = contents_of σ

  size_is : length (file_of (contents_of σ)) ≡ byte_length 4 σ.dataset.k σ.dataset.n
  unfolding contents_of study_of
  size_is = file_length H (passed_valid σ P) ∙ ap (byte_length 4 σ.dataset.k) (study_size σ)

  own : (file : List ℕ) (b : Bool) → ltb (length file) (length (file_of (contents_of σ))) ≡ b
      → cond b (refused (number 1)) accepted ≡ answer σ (writes_file file)
  unfolding writes_file write_reasons first_of
  own file b q =
      ap (λ b. cond b (refused (number 1)) accepted) (sym q)
      ∙ inquiry_own σ _ P refl

  module _ {file : List ℕ} {size : ℕ} (e : size ≡ byte_length 4 σ.dataset.k σ.dataset.n) where
    pub write_short : length file < size → (refusal (number 1) ≡ reply σ (writes_file file)) × (file ≡ list_after σ (writes_file file))
    write_short l = refuses σ file (own file true (T_true _ (lt→ltb _ _ (subst (λ n. length file < n) (e ∙ sym size_is) l))))

    -- there is room
    module _ (room : size ≤ length file) where
      pub writable : Writable σ file
      unfolding byte_length
      writable = record { study = P.study; long = P.long; room = omega (arith, e, room) }

      pub write_done : {new : List ℕ} → PutFields file 0 (file_fields (contents_of σ)) new
          → (value (size ∷ []) ≡ reply σ (writes_file file)) × (new ≡ list_after σ (writes_file file))
      unfolding writes_file
      write_done a =
          let fits = subst (λ n. n ≤ length file) (e ∙ sym size_is) room in
          let w = own file false (T_false _ (le→nltb _ _ fits)) in (
            ap (λ n. value (n ∷ [])) (e ∙ sym size_is) ∙ replies σ _ P w,
            file_written H a ∙ ap (λ (o : Output). first_list o.lists) (writes σ _ P w),
          )
