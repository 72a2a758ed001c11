-- After every list of calls, record and memory hold what the start and the calls brought in, and the same settles each call's answer.
-- Assumes nothing.
use Prim.Native.Nat.{ℕ}
use native.Mathlib.Omega.{arith}
use mathlib.Core.Path.{◌≡◌, refl, sym, ap, ap₂, ◌∙◌, subst}
use mathlib.Core.Bool.{Bool, true, false, cond}
use mathlib.Core.List.{List, [], ◌∷◌, ◌++◌}
use mathlib.Core.Option.{Option, none, some}
use Rattle.lists.proofs.Tests.{T_true, true-T}
use Rattle.study.specs.Study.{Contents}
use Rattle.study.specs.Refusals.{Verdict, accepted, refused, settled, first_of}
use Rattle.study.specs.Theorems.{ValidContents}
use Rattle.study.proofs.Proofs.{for_calls}
use Rattle.file_format.proofs.Proofs.{files}
use Rattle.validity.specs.Memory.{State, short, is_dataset, contents_of}
use Rattle.validity.proofs.Proofs.{for_datasets}
use Rattle.access.specs.Calls.{Holding, fresh, holding_of, held, kept, anew, Source, Update, Inquiry, Call, begins, changes, asks, verdict, changing}
use Rattle.access.specs.Calls.{changed, step, learnt, response, answer, made, after}
use Rattle.access.proofs.AccessLaws.{held_dataset, answer_is, source_accepted, update_accepted}
use Rattle.dataset.specs.Calls.{opens_dataset, sets_minima, enters_tide, withdraws_tide}
use Rattle.study_file.specs.Calls.{reads_file}
use Rattle.merge.specs.Calls.{merges_datasets}
use Rattle.merge.proofs.AnswerLaws.{merged_valid}
use Rattle.guarantee.specs.Runs.{Offered, open_with, read_file, merge, set_minima, enter, withdraw, ask, call_of, brings_in, run, following}
use Rattle.guarantee.specs.Runs.{held_after}

-- ---- what is held

-- what it says that H is held
pub record Holds (s : State) (H : Holding) : Type 0 where
  pub not_short : short s ≡ false
  pub tested : is_dataset s ≡ true
  pub contents : contents_of s ≡ H.contents

pub held_some : (s : State) (H : Holding) → held s ≡ some H → Holds s H
unfolding held
held_some s H e = by (short s) (is_dataset s) refl refl e
  where
    by : (a b : Bool) → short s ≡ a → is_dataset s ≡ b → cond a none (cond b (some (holding_of s)) none) ≡ some H → Holds s H
    by true b p q h = absurd (let z : ◌≡◌ {A = ℕ} 0 1 = cc in omega arith)
    by false true p q h = record { not_short = p; tested = q; contents = let e : holding_of s ≡ H = cc in ap (λ (x : Holding). x.contents) e }
    by false false p q h = absurd (let z : ◌≡◌ {A = ℕ} 0 1 = cc in omega arith)

pub holds_valid : {s : State} {H : Holding} → Holds s H → ValidContents H.contents
holds_valid {s} A = subst ValidContents A.contents (for_datasets.valid s (true-T (is_dataset s) A.tested))

-- ---- a call that begins anew

-- it brings C in: whatever was held, C is then held and stands in record and memory, which are long enough where it is accepted
pub record BeginsWith (s : State) (c : Call) (C : Contents) : Type 0 where
  pub changed : (h : Option Holding) → changed h c ≡ some (fresh C)
  pub made : made s c ≡ anew C s
  pub long : answer s c ≡ accepted → short s ≡ false

pub begins_with : (s : State) (c : Call) (C : Contents) → brings_in c ≡ some C → BeginsWith s c C
unfolding changed made
begins_with s (begins S) C e =
    let q : S.brings ≡ C = cc in
    record { changed = λ h. ap (λ K. some (fresh K)) q; made = ap (λ K. anew K s) q; long = λ a. (source_accepted s S a).0 }
begins_with s (changes U) C e = absurd (let z : ◌≡◌ {A = ℕ} 0 1 = cc in omega arith)
begins_with s (asks Q) C e = absurd (let z : ◌≡◌ {A = ℕ} 0 1 = cc in omega arith)

-- ---- what a call leaves

-- after s comes `new`, which holds h in memory as long as before
record Leaves (s : State) (h : Option Holding) (new : State) : Type 0 where
  holds : held new ≡ h
  as_long : short new ≡ short s

-- record and memory that are made to hold H hold it
leaves_kept : (s : State) (H : Holding) → short s ≡ false → ValidContents H.contents → Leaves s (some H) (kept H s)
leaves_kept s H e ok =
    let C = H.contents in
    let long = for_datasets.as_long C s e in
    record {
      holds = held_dataset (kept H s) (long ∙ e) (T_true (is_dataset (kept H s)) (for_datasets.laid_out C s ok))
          ∙ ap (λ K. some (record { contents = K })) (for_datasets.read_back C s ok);
      as_long = long;
    }

module _ (s : State) where
  -- what record and memory hold after a call
  abbrev Kept : Call → Type 0
  Kept c = Leaves s (step (short s) (held s) c) (after s c)

  -- a refused call leaves everything
  leaves_settled : (v : Verdict) (h : Option Holding) (new : State) → (v ≡ accepted → Leaves s h new) → Leaves s (settled v h (held s)) (settled v new s)
  leaves_settled accepted h new f = f refl
  leaves_settled (refused r) h new f = record { holds = refl; as_long = refl }

  -- a call that begins anew, with valid contents
  leaves_source : (S : Source) → (first_of S.own ≡ accepted → ValidContents S.brings) → Kept (begins S)
  unfolding step after answer response learnt made changed
  leaves_source S valid =
      leaves_settled (answer s (begins S)) (some (fresh S.brings)) (anew S.brings s) (λ e.
      let q = source_accepted s S e in leaves_kept s (fresh S.brings) q.0 (valid q.1))

  -- a change that keeps contents valid
  leaves_update : (U : Update)
      → ((H : Holding) → ValidContents H.contents → first_of (U.own H) ≡ accepted → ValidContents (U.makes H).contents) → Kept (changes U)
  unfolding step after answer response learnt made changed
  leaves_update U keeps =
      let new = U.makes (holding_of s) in
      leaves_settled (answer s (changes U)) (changing (held s) U.makes) (kept new s) (λ e.
      let A = update_accepted s U e in
      subst (λ h. Leaves s (changing h U.makes) (kept new s)) (sym (held_dataset s A.not_short A.tested))
      (leaves_kept s new A.not_short (keeps (holding_of s) (for_datasets.valid s (true-T (is_dataset s) A.tested)) A.reasons)))

  -- a call that only reads
  leaves_inquiry : (Q : Inquiry) → Kept (asks Q)
  unfolding step after answer response learnt made changed
  leaves_inquiry Q = by (answer s (asks Q))
    where
      by : (v : Verdict) → Leaves s (settled v (held s) (held s)) (settled v s s)
      by accepted = record { holds = refl; as_long = refl }
      by (refused r) = record { holds = refl; as_long = refl }

  leaves_step : (c : Offered) → Kept (call_of c)
  unfolding call_of opens_dataset reads_file merges_datasets sets_minima enters_tide withdraws_tide
  leaves_step (open_with k) = leaves_source _ (for_calls.on_open k)
  leaves_step (read_file file) = leaves_source _ (files.valid file)
  leaves_step (merge a b firsts seconds) = leaves_source _ (merged_valid a b firsts seconds)
  leaves_step (set_minima M) = leaves_update _ (λ H. for_calls.on_minima M H.contents)
  leaves_step (enter setting row) = leaves_update _ (λ H. for_calls.on_enter setting row H.contents)
  leaves_step (withdraw u t) = leaves_update _ (λ H. for_calls.on_withdraw u t H.contents)
  leaves_step (ask Q) = leaves_inquiry Q

  -- what is held after an accepted call
  pub held_accepted : (c : Offered) → answer s (call_of c) ≡ accepted → held (after s (call_of c)) ≡ changed (held s) (call_of c)
  unfolding step
  held_accepted c e =
      (leaves_step c).holds ∙ ap (λ v. settled v (changed (held s) (call_of c)) (held s)) (sym (answer_is s (call_of c)) ∙ e)

-- ---- every list of calls

leaves_run : (s : State) (cs : List Offered) → Leaves s (following (short s) (held s) cs) (run s cs)
unfolding run following
leaves_run s [] = record { holds = refl; as_long = refl }
leaves_run s (c ∷ cs) =
    let one = leaves_step s c in
    let rest = leaves_run (after s (call_of c)) cs in
    record { holds = rest.holds ∙ ap₂ (λ is_too_short h. following is_too_short h cs) one.as_long one.holds; as_long = rest.as_long ∙ one.as_long }

pub run_append : (s : State) (xs ys : List Offered) → run s (xs ++ ys) ≡ run (run s xs) ys
unfolding run
run_append s [] ys = refl
run_append s (x ∷ xs) ys = run_append (after s (call_of x)) xs ys

module _ (start : State) (calls : List Offered) where
  pub holds : held (run start calls) ≡ held_after start calls
  unfolding held_after
  holds = (leaves_run start calls).holds

  -- memory stays too short or long enough
  pub as_short : short (run start calls) ≡ short start
  as_short = (leaves_run start calls).as_long

  pub settles : (c : Call) → response (run start calls) c ≡ learnt (short start) (held_after start calls) c
  unfolding response
  settles c = ap₂ (λ is_too_short h. learnt is_too_short h c) as_short holds

  pub answers : (c : Call) → answer (run start calls) c ≡ verdict (short start) (held_after start calls) c
  answers c = answer_is (run start calls) c ∙ ap₂ (λ is_too_short h. verdict is_too_short h c) as_short holds
