-- Write on a dataset: by whether there is room for its file, what it replies and what it leaves. Assumes nothing.
use Prim.Native.Nat.{ℕ}
use native.Mathlib.Omega.{arith}
use mathlib.Core.Path.{◌≡◌, refl, sym, ap, ◌∙◌}
use mathlib.Core.Bool.{Bool, true, false, cond}
use mathlib.Core.List.{List, [], ◌∷◌}
use lib.Dec.{ltb}
use lib.ListN.{length}
use Rattle.lists.specs.Lists.{over}
use Rattle.study.specs.Refusals.{number, Verdict, accepted, refused, settled, value, refusal, replied, first_of}
use Rattle.file_format.specs.File.{file_of}
use Rattle.validity.specs.Memory.{State, contents_of}
use Rattle.access.specs.Calls.{Output, first_list, answer, reply, list_after}
use Rattle.access.specs.Passed.{Passed}
use Rattle.access.proofs.AccessLaws.{inquiry_own, reply_tells, output_tells}
use Rattle.study_file.specs.Calls.{write_reasons, writes_file}

-- the output with these bytes in the file
abbrev told : List ℕ → List ℕ → Output
told numbers bytes = record { numbers = numbers; lists = bytes ∷ []; records = [] }

module _ {s : State} (P : Passed s) (bytes : List ℕ) where
  abbrev pub file : List ℕ
  file = file_of (contents_of s)

  abbrev pub short? : Bool
  short? = ltb (length bytes) (length file)

  write_verdict : answer s (writes_file bytes) ≡ cond short? (refused (number 1)) accepted
  unfolding writes_file write_reasons first_of
  write_verdict = sym (inquiry_own s _ P refl)

  pub write_reply : reply s (writes_file bytes) ≡ cond short? (refusal (number 1)) (value (length file ∷ []))
  unfolding writes_file
  write_reply = reply_tells s _ ∙ ap (λ v. replied v (length file ∷ [])) write_verdict ∙ by short?
    where
      by : (t : Bool) → replied (cond t (refused (number 1)) accepted) (length file ∷ []) ≡ cond t (refusal (number 1)) (value (length file ∷ []))
      by true = refl
      by false = refl

  pub write_leaves : {new : List ℕ} → new ≡ list_after s (writes_file bytes) → new ≡ cond short? bytes (over file bytes)
  unfolding writes_file
  write_leaves e =
      e ∙ ap (λ (o : Output). first_list o.lists) (output_tells s _) ∙ by (answer s (writes_file bytes)) short? write_verdict
    where
      by : (v : Verdict) (t : Bool) → v ≡ cond t (refused (number 1)) accepted
          → first_list (settled v (told (length file ∷ []) (over file bytes)) (told [] bytes)).lists ≡ cond t bytes (over file bytes)
      by accepted true e = absurd (let z : ◌≡◌ {A = ℕ} 0 1 = cc in omega arith)
      by accepted false e = refl
      by (refused r) true e = refl
      by (refused r) false e = absurd (let z : ◌≡◌ {A = ℕ} 0 1 = cc in omega arith)
