-- What Write makes of the text's end, and the whole answer. Assumes nothing.
use Prim.Native.Nat.{ℕ, ◌≤◌, ◌<◌}
use native.Mathlib.Omega.{arith}
use mathlib.Core.Path.{◌≡◌, sym, ap, ◌∙◌}
use mathlib.Core.Bool.{Bool, true, false, cond}
use mathlib.Core.List.{List, [], ◌∷◌}
use lib.Dec.{ltb}
use lib.ListN.{length}
use borrow.Author.Tests.{lt-ltb, le-ltb}
use Rattle.study.specs.Refusals.{number, numbered, value, refusal}
use Rattle.validity.specs.Memory.{State, contents_of}
use Rattle.access.specs.Calls.{reply, list_after}
use Rattle.file_format.specs.File.{file_of}
use Rattle.std.specs.Prelude.{Result, Ok, Err}
use Rattle.study.specs.declared.Refusal.{Refusal}
use Rattle.access.specs.Passed.{Passed}
use Rattle.study_file.specs.Calls.{written_of, writes_file}
use Rattle.study_file.proofs.RoomLaws.{write_reply, write_leaves}
use Rattle.study_text.specs.declared.TextError.{TextError}
use Rattle.study_text.specs.declared.Rule.TheVariants as RuleCase
use Rattle.text_words.specs.Words.{newlines}
use Rattle.study_text.specs.Packing.{Report, done, refused_at, too_long, report_of, Turn, ended, text_of, answered, written, pack_answer, pack_leaves}
use Rattle.study_text.specs.Steps.{at_line}

-- ---- Write

-- what Write's reply says of a text that ends on line l
told_written : (w : Result ℕ Refusal) (l : ℕ) (t : Bool) (n : ℕ) → written_of w ≡ cond t (refusal (number 1)) (value (n ∷ []))
    → report_of (at_line l w) ≡ cond t (refused_at l (number 1)) (done n)
told_written (Ok m) l true n e = absurd (let z : ◌≡◌ {A = ℕ} 0 1 = cc in omega arith)
told_written (Ok m) l false n e = cc
told_written (Err r) l true n e = let h : numbered r ≡ number 1 = cc in ap (refused_at l) h
told_written (Err r) l false n e = absurd (let z : ◌≡◌ {A = ℕ} 0 1 = cc in omega arith)

-- the report and the bytes of a text that came to its end
pub write_ends : {s : State} (P : Passed s) (l : ℕ) (w : Result ℕ Refusal) {r : Result ℕ TextError} (bytes : List ℕ) {new : List ℕ} → r ≡ at_line l w
    → written_of w ≡ reply s (writes_file bytes) → new ≡ list_after s (writes_file bytes)
    → (report_of r ≡ answered (ended (contents_of s) l) (length bytes)) × (new ≡ written (ended (contents_of s) l) bytes)
write_ends {s} P l w bytes e f g =
    let n = length (file_of (contents_of s)) in
    (ap report_of e ∙ told_written w l (ltb (length bytes) n) n (f ∙ write_reply P bytes), write_leaves P bytes g)

-- ---- the answer

module _ (text : List ℕ) where
  pub pack_long : {n : ℕ} (room : ℕ) → 131072 < length text → n ≡ newlines text → too_long n ≡ pack_answer text room
  unfolding pack_answer
  pack_long room h e = rw (lt-ltb 131072 (length text) h) (ap too_long e)

  pub pack_long_leaves : (bytes : List ℕ) → 131072 < length text → bytes ≡ pack_leaves text bytes
  unfolding pack_leaves
  pack_long_leaves bytes h = rw (lt-ltb 131072 (length text) h)

  module _ {u : Turn} (f : text_of RuleCase.Entered text ≡ u) (h : length text ≤ 131072) where
    pub pack_told : {t : Report} (room : ℕ) → t ≡ answered u room → t ≡ pack_answer text room
    unfolding pack_answer
    pack_told room e = rw (le-ltb 131072 (length text) h) (e ∙ ap (λ u. answered u room) (sym f))

    pub pack_left : {new : List ℕ} (bytes : List ℕ) → new ≡ written u bytes → new ≡ pack_leaves text bytes
    unfolding pack_leaves
    pack_left bytes e = rw (le-ltb 131072 (length text) h) (e ∙ ap (λ u. written u bytes) (sym f))
