-- The ways out: what is told and left of two files, of two datasets and of their merge. Assumes nothing.
use Prim.Native.Nat.{ℕ, ◌≤◌}
use native.Mathlib.Omega.{arith}
use mathlib.Core.Path.{◌≡◌, refl, sym, ap, ◌∙◌, subst}
use mathlib.Core.Bool.{Bool, true, false, cond}
use mathlib.Core.List.{List, [], ◌∷◌}
use lib.Dec.{ltb}
use lib.ListN.{length}
use Rattle.study.specs.Limits.{max_tides, table_size}
use Rattle.study.specs.declared.Refusal.{Refusal}
use Rattle.study.specs.Study.{Contents}
use Rattle.study.specs.Refusals.{Numbered, number, numbered, Verdict, accepted, verdict_of, value, refusal, first_of, fresh_reasons, held_reasons}
use Rattle.study.specs.Theorems.{ValidContents}
use Rattle.file_format.specs.File.{file_of, decoded, read_reasons}
use Rattle.file_format.proofs.Proofs.{files}
use Rattle.validity.specs.Memory.{State, short, contents_of, stored}
use Rattle.validity.proofs.LayoutLaws.{short_no}
use Rattle.validity.proofs.Proofs.{for_datasets}
use Rattle.access.specs.Calls.{Source, begins, answer, reply, list_after, made, after}
use Rattle.access.specs.Passed.{Passed}
use Rattle.access.proofs.AccessLaws.{passed_valid, stored_passed, leaves, source_own}
use Rattle.study_file.specs.Calls.{written_of, reads_file, writes_file}
use Rattle.study_file.proofs.RoomLaws.{write_reply, write_leaves}
use Rattle.merge.specs.Merge.{merged, merge_reasons}
use Rattle.merge.specs.Calls.{source_reasons, merges_datasets}
use Rattle.merge.proofs.Proofs.{for_merges}
use Rattle.merge_text.specs.declared.pairs.WrongLine.{WrongLine}
use Rattle.merge_text.specs.Pairs.{ended, pairs_of}
use Rattle.std.specs.Prelude.{Result, Ok, Err}
use Rattle.merge_text.specs.declared.JoinError.{JoinError}
use Rattle.merge_text.specs.declared.JoinError.TheVariants as JoinErrorCase
use Rattle.merge_text.specs.Joining.{Report, done, first_refused, second_refused, merge_refused, report_of, Made, wrong, unless, merged_by, joined}
use Rattle.merge_text.specs.Joining.{join_answer, join_leaves}
use Rattle.merge_text.specs.Joining.{made as made_of}
use Rattle.merge_text.specs.Steps.{listed_of, Lists, Brings, FileRead, Merged, Tells}

-- what is wrong is told, and nothing written
wrong_tells : {m : Made} {r : Result ℕ JoinError} {bytes : List ℕ} → m ≡ wrong (report_of r) → Tells m r bytes bytes
wrong_tells {r = r} {bytes = bytes} e = subst (λ m. Tells m r bytes bytes) (sym e) (record { told = refl; leaves = refl })

-- ---- Write

-- as the code tells Write's reply
abbrev pub joined_by : Result ℕ Refusal → Result ℕ JoinError
joined_by (Ok n) = Ok n
joined_by (Err r) = Err (JoinErrorCase.Refused r)

told_joined : (w : Result ℕ Refusal) (t : Bool) (n : ℕ) → written_of w ≡ cond t (refusal (number 1)) (value (n ∷ []))
    → report_of (joined_by w) ≡ cond t (merge_refused (number 1)) (done n)
told_joined (Ok m) true n e = absurd (let z : ◌≡◌ {A = ℕ} 0 1 = cc in omega arith)
told_joined (Ok m) false n e = cc
told_joined (Err r) true n e = let h : numbered r ≡ number 1 = cc in ap merge_refused h
told_joined (Err r) false n e = absurd (let z : ◌≡◌ {A = ℕ} 0 1 = cc in omega arith)

pub write_tells : {s : State} → Passed s → (w : Result ℕ Refusal) {v : Result ℕ Refusal} {r : Result ℕ JoinError} (bytes : List ℕ) {left : List ℕ}
    → w ≡ v → r ≡ joined_by v
    → (written_of w ≡ reply s (writes_file bytes)) × (left ≡ list_after s (writes_file bytes)) → Tells (made_of (contents_of s)) r bytes left
write_tells {s} P w bytes e h did =
    let n = length (file_of (contents_of s)) in
    record {
      told = ap report_of (h ∙ ap joined_by (sym e)) ∙ told_joined w (ltb (length bytes) n) n (did.0 ∙ write_reply P bytes);
      leaves = write_leaves P bytes did.1;
    }

-- ---- what a call brings in that begins anew

module _ (s : State) (S : Source) (room : short s ≡ false) (valid : first_of S.own ≡ accepted → ValidContents S.brings) (x : Result Unit Refusal) {t : State}
    (h : verdict_of x ≡ answer s (begins S)) (l : t ≡ after s (begins S)) where
  own : verdict_of x ≡ first_of S.own
  own = h ∙ sym (source_own s S room)

  module _ {done : Unit} (e : x ≡ Ok done) where
    ok : ValidContents S.brings
    ok = valid (sym own ∙ ap verdict_of e)

    there : t ≡ stored S.brings s
    unfolding made
    there = l ∙ sym (leaves s (begins S) (sym (ap verdict_of e) ∙ h))

  -- over memory that is long enough, where valid contents are accepted
  brings : Brings (first_of S.own) S.brings x t
  brings =
      record {
        verdict = own;
        passed = λ e. subst Passed (sym (there e)) (stored_passed S.brings s room (ok e));
        holds = λ e. ap contents_of (there e) ∙ for_datasets.read_back S.brings s (ok e);
      }

-- Read
pub read_brings : (file : List ℕ) (s : State) → table_size ≤ length s.distances → max_tides ≤ length s.settings → (x : Result Unit Refusal) {t : State}
    → (verdict_of x ≡ answer s (reads_file file)) × (t ≡ after s (reads_file file)) → FileRead file x t
unfolding reads_file
read_brings file s a b x did = brings s _ (short_no s a b) (files.valid file) x did.0 did.1

-- a merge of two datasets: no memory is short, neither is no dataset, so that its own reasons answer
module _ {a b : State} (A : Passed a) (B : Passed b) (f g : List ℕ) where
  sources_own : first_of (source_reasons a b f g) ≡ first_of (merge_reasons (contents_of a) (contents_of b) f g)
  unfolding source_reasons held_reasons fresh_reasons first_of
  sources_own = rw (A.not_short, B.not_short, A.tested, B.tested)

  -- what they leave is valid
  sources_valid : first_of (source_reasons a b f g) ≡ accepted → ValidContents (merged (contents_of a) (contents_of b) f g)
  sources_valid e = (for_merges (contents_of a) (contents_of b) f g (passed_valid a A) (passed_valid b B) (sym sources_own ∙ e)).valid

  pub merge_brings : (s : State) → table_size ≤ length s.distances → max_tides ≤ length s.settings → (x : Result Unit Refusal) {t : State}
      → (verdict_of x ≡ answer s (merges_datasets a b f g)) × (t ≡ after s (merges_datasets a b f g)) → Merged (contents_of a) (contents_of b) f g x t
  unfolding merges_datasets
  merge_brings s c d x {t} did =
      let K = brings s _ (short_no s c d) sources_valid x did.0 did.1 in
      subst (λ v. Brings v (merged (contents_of a) (contents_of b) f g) x t) sources_own K

-- what is said of it
module _ {v : Verdict} {H : Contents} {x : Result Unit Refusal} {t : State} (K : Brings v H x t) (tell : Numbered → Report) (rest : Made) where
  refuses : {why : Refusal} → x ≡ Err why → unless v tell rest ≡ wrong (tell (numbered why))
  refuses e = ap (λ v. unless v tell rest) (sym K.verdict ∙ ap verdict_of e)

  accepts : {done : Unit} → x ≡ Ok done → unless v tell rest ≡ rest
  accepts e = ap (λ v. unless v tell rest) (sym K.verdict ∙ ap verdict_of e)

-- ---- the merge of two datasets

module _ (A B : Contents) (f g : List ℕ) {x : Result Unit Refusal} {t : State} (K : Merged A B f g x t) where
  -- by these pairs
  abbrev merging : Made
  merging = merged_by A B (ended (record { firsts = f; seconds = g }))

  pub merge_refused_lem : {why : Refusal} {bytes : List ℕ} → x ≡ Err why → Tells merging (Err (JoinErrorCase.Refused why)) bytes bytes
  merge_refused_lem e = wrong_tells (refuses K merge_refused (made_of (merged A B f g)) e)

  pub merge_tells : {r : Result ℕ JoinError} {bytes left : List ℕ} {done : Unit} → x ≡ Ok done
      → Tells (made_of (contents_of t)) r bytes left → Tells merging r bytes left
  merge_tells {r} {bytes} {left} e =
      subst (λ m. Tells m r bytes left) (ap made_of (K.holds e) ∙ sym (accepts K merge_refused (made_of (merged A B f g)) e))

-- ---- by the pairs of a text

module _ (A B : Contents) {text : List ℕ} {l : Result ℕ WrongLine} {firsts seconds : List ℕ} (L : Lists text l firsts seconds) where
  listed_as : {k : Result ℕ WrongLine} → l ≡ k → merged_by A B (listed_of k firsts seconds) ≡ merged_by A B (pairs_of text)
  listed_as e = ap (merged_by A B) (ap (λ k. listed_of k firsts seconds) (sym e) ∙ L.is)

  pub text_stops : {w : WrongLine} {bytes : List ℕ} → l ≡ Err w
      → Tells (merged_by A B (pairs_of text)) (Err (JoinErrorCase.WrongLine w.line w.fault)) bytes bytes
  text_stops e = wrong_tells (sym (listed_as e))

  pub text_tells : {n : ℕ} {r : Result ℕ JoinError} {bytes left : List ℕ} → l ≡ Ok n
      → Tells (merged_by A B (listed_of (Ok n) firsts seconds)) r bytes left → Tells (merged_by A B (pairs_of text)) r bytes left
  text_tells {n} {r} {bytes} {left} e = subst (λ m. Tells m r bytes left) (listed_as e)

-- ---- two files

module _ (first second pairs : List ℕ) where
  -- the two equations
  pub join_tells : {r : Result ℕ JoinError} {bytes left : List ℕ} → Tells (joined first second pairs) r bytes left
      → (report_of r ≡ join_answer first second pairs (length bytes)) × (left ≡ join_leaves first second pairs bytes)
  unfolding join_answer join_leaves
  join_tells K = (K.told, K.leaves)

  -- what follows the first file, and what follows the second
  abbrev after_second : Made
  after_second = merged_by (decoded first) (decoded second) (pairs_of pairs)

  abbrev after_first : Made
  after_first = unless (first_of (read_reasons second)) second_refused after_second

  module _ {x : Result Unit Refusal} {a : State} (K : FileRead first x a) where
    pub first_refused_lem : {why : Refusal} {bytes : List ℕ} → x ≡ Err why
        → Tells (joined first second pairs) (Err (JoinErrorCase.FirstRefused why)) bytes bytes
    unfolding joined
    first_refused_lem e = wrong_tells (refuses K first_refused after_first e)

    module _ {done : Unit} (d : x ≡ Ok done) {y : Result Unit Refusal} {b : State} (L : FileRead second y b) where
      pub second_refused_lem : {why : Refusal} {bytes : List ℕ} → y ≡ Err why
          → Tells (joined first second pairs) (Err (JoinErrorCase.SecondRefused why)) bytes bytes
      unfolding joined
      second_refused_lem e = wrong_tells (accepts K first_refused after_first d ∙ refuses L second_refused after_second e)

      pub both_read : {r : Result ℕ JoinError} {bytes left : List ℕ} {read : Unit} → y ≡ Ok read
          → Tells (merged_by (contents_of a) (contents_of b) (pairs_of pairs)) r bytes left
          → Tells (joined first second pairs) r bytes left
      unfolding joined
      both_read {r} {bytes} {left} e =
          let p = K.holds d in
          let q = L.holds e in
          subst (λ m. Tells m r bytes left)
          ((λ i. merged_by (p i) (q i) (pairs_of pairs)) ∙ sym (accepts K first_refused after_first d ∙ accepts L second_refused after_second e))
