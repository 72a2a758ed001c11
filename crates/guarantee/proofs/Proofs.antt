-- The eight records of specs/Theorems.antt. Assumes nothing.
use Prim.Native.Nat.{ℕ, ◌<◌}
use native.Mathlib.Omega.{arith}
use mathlib.Core.Path.{◌≡◌, refl, sym, ap, ap₂, ◌∙◌, subst}
use mathlib.Core.Logic.{◌↔◌}
use mathlib.Core.Bool.{Bool, true, false, cond, not}
use mathlib.Core.List.{List, [], ◌∷◌, ◌++◌}
use mathlib.Core.Option.{Option, none, some}
use lib.ListN.{length}
use Rattle.lists.specs.Lists.{all_of}
use Rattle.lists.proofs.Tests.{true-T}
use Rattle.study.specs.declared.BlockRecord.{BlockRecord}
use Rattle.study.specs.Problem.{Feasible}
use Rattle.study.specs.Study.{Study, size, problem}
use Rattle.study.specs.Refusals.{Numbered, number, accepted, refused, first_of, fresh_reasons, is_user, held_reasons}
use Rattle.study.specs.declared.Figures.{Figures}
use Rattle.study.specs.Calls.{CentreLists, enter_reasons, block_reasons}
use Rattle.study.specs.Theorems.{ValidContents}
use Rattle.study.proofs.Proofs.{for_duplicates}
use Rattle.validity.specs.Memory.{State, short, is_dataset}
use Rattle.pricing.specs.Tariff.{total, shares}
use Rattle.pricing.specs.Theorems.{StudyShares}
use Rattle.access.specs.Calls.{Inquiry, Call, asks, Holding, held, reasons, verdict, changed, Response, learnt, answer, response}
use Rattle.access.proofs.AccessLaws.{source_accepted}
use Rattle.dataset.specs.Calls.{enters_tide}
use Rattle.merge.specs.Calls.{merges_datasets}
use Rattle.merge.proofs.AnswerLaws.{merges}
use Rattle.blocking.specs.Calls.{finds_centres, makes_blocks}
use Rattle.priced_blocks.specs.Calls.{prices_blocks}
use Rattle.priced_blocks.proofs.ReplyLaws.{as_block}
use Rattle.guarantee.specs.Runs.{Offered, merge, call_of, run, held_after, study_in, study_after}
use Rattle.guarantee.specs.Theorems.{Guaranteed, CanonicalBlock, blocked, Demand1, Demand2, Demand3, charged, ForTariff, centred, CentresTold}
use Rattle.guarantee.specs.Theorems.{ForCentres, ForEnter, DuplicateFree, HoldsMerged, ForMerge}
use Rattle.guarantee.proofs.Follows.{held_some, holds_valid, held_accepted, run_append, holds, as_short, settles, answers}
use Rattle.guarantee.proofs.LedgerLaws.{exactly, begun_anew}
use Rattle.guarantee.proofs.CountLaws.{counted_after}
use Rattle.guarantee.proofs.AnewLaws.{as_read}
use Rattle.guarantee.proofs.FreeLaws.{free_after}
use Rattle.guarantee.proofs.BlockLaws.{block_25, block_shaped, block_guaranteed, block_canonical, block_charged, block_shared}
use Rattle.guarantee.proofs.CentresLaws.{centres_told}
use Rattle.guarantee.proofs.DemandLaws.{first, only, unchanged, unwritten, only_reads, files_and_datasets}

-- the study is that of the contents
record Studied (h : Option Holding) (S : Study) : Type 0 where
  holding : Holding
  is : h ≡ some holding
  study : holding.contents.study ≡ S

studied : (h : Option Holding) (S : Study) → study_in h ≡ some S → Studied h S
studied none S e = absurd (let z : ◌≡◌ {A = ℕ} 0 1 = cc in omega arith)
studied (some H) S e = record { holding = H; is = refl; study = cc }

not_studied : (h : Option Holding) → study_in h ≡ none → h ≡ none
not_studied none e = refl
not_studied (some H) e = absurd (let z : ◌≡◌ {A = ℕ} 0 1 = cc in omega arith)

module _ (start : State) (calls : List Offered) where
  valid_after : (H : Holding) → held_after start calls ≡ some H → ValidContents H.contents
  valid_after H e = holds_valid (held_some (run start calls) H (holds start calls ∙ e))

  long : (H : Holding) → held_after start calls ≡ some H → short start ≡ false
  long H e = sym (as_short start calls) ∙ (held_some (run start calls) H (holds start calls ∙ e)).not_short

  -- what the caller of a call learns, where H is held
  learns_some : (c : Call) (H : Holding) → held_after start calls ≡ some H → response (run start calls) c ≡ learnt false (some H) c
  learns_some c H e = settles start calls c ∙ ap₂ (λ is_too_short h. learnt is_too_short h c) (long H e) e

  answers_some : (c : Call) (H : Holding) → held_after start calls ≡ some H → answer (run start calls) c ≡ verdict false (some H) c
  answers_some c H e = answers start calls c ∙ ap₂ (λ is_too_short h. verdict is_too_short h c) (long H e) e

  -- a question, where nothing is held
  refused_none : (Q : Inquiry) → held_after start calls ≡ none → (r : Numbered) × (answer (run start calls) (asks Q) ≡ refused r)
  unfolding verdict reasons held_reasons fresh_reasons first_of
  refused_none Q e =
      by (short start) (all_of is_user Q.caller.users) (answers start calls (asks Q) ∙ ap (λ h. verdict (short start) h (asks Q)) e)
    where
      by : (a b : Bool) → answer (run start calls) (asks Q) ≡ cond a (refused (number 1)) (cond (not b) (refused (number 14)) (refused (number 21)))
          → (r : Numbered) × (answer (run start calls) (asks Q) ≡ refused r)
      by true b q = (number 1, q)
      by false true q = (number 21, q)
      by false false q = (number 14, q)

  block_none : (list : List ℕ) (records : List BlockRecord) → held_after start calls ≡ none
      → (r : Numbered) × (answer (run start calls) (makes_blocks list records) ≡ refused r)
  unfolding makes_blocks
  block_none list records e = refused_none _ e

  -- Block's own reasons answer
  block_own : (list : List ℕ) (records : List BlockRecord) (H : Holding) → held_after start calls ≡ some H
      → answer (run start calls) (makes_blocks list records) ≡ first_of (block_reasons H.contents.study (length list) (length records))
  unfolding makes_blocks verdict reasons held_reasons fresh_reasons first_of
  block_own list records H e = answers_some (makes_blocks list records) H e

  no_study : (list : List ℕ) (records : List BlockRecord) → study_after start calls ≡ none
      → (r : Numbered) × (answer (run start calls) (makes_blocks list records) ≡ refused r)
  unfolding study_after
  no_study list records e = block_none list records (not_studied (held_after start calls) e)

  too_few : (S : Study) (list : List ℕ) (records : List BlockRecord) → study_after start calls ≡ some S → 0 < size S
      → (answer (run start calls) (makes_blocks list records) ≡ refused (number 25)) ↔ ((D : ℕ → ℕ) → Feasible (problem S) D → ⊥)
  unfolding study_after
  too_few S list records e =
      let K = studied (held_after start calls) S e in
      let H = K.holding in
      let v = answer (run start calls) (makes_blocks list records) in
      subst (λ R. 0 < size R → (v ≡ refused (number 25)) ↔ ((D : ℕ → ℕ) → Feasible (problem R) D → ⊥)) K.study
      (λ l. subst (λ v. (v ≡ refused (number 25)) ↔ ((D : ℕ → ℕ) → Feasible (problem H.contents.study) D → ⊥)) (sym (block_own list records H K.is))
      (block_25 H.contents.study (valid_after H K.is).study (length list) (length records) l))

  -- Block is accepted: its caller learns figures, a list and records
  shaped : (list₀ : List ℕ) (records₀ : List BlockRecord) → answer (run start calls) (makes_blocks list₀ records₀) ≡ accepted
      → (F : Figures) × (list : List ℕ) × (records : List BlockRecord)
      × (response (run start calls) (makes_blocks list₀ records₀) ≡ blocked F list records)
  shaped list₀ records₀ a = by (held_after start calls) refl
    where
      by : (h : Option Holding) → held_after start calls ≡ h
          → (F : Figures) × (list : List ℕ) × (records : List BlockRecord)
          × (response (run start calls) (makes_blocks list₀ records₀) ≡ blocked F list records)
      by none e =
          let r = sym (block_none list₀ records₀ e).1 ∙ a in
          absurd (let z : ◌≡◌ {A = ℕ} 0 1 = cc in omega arith)
      by (some H) e = (
        _,
        _,
        _,
        learns_some (makes_blocks list₀ records₀) H e
            ∙ block_shaped H (valid_after H e) list₀ records₀ (sym (answers_some (makes_blocks list₀ records₀) H e) ∙ a),
      )

  -- the caller has learnt them
  module _ (list₀ list : List ℕ) (records₀ records : List BlockRecord) (F : Figures)
      (q : response (run start calls) (makes_blocks list₀ records₀) ≡ blocked F list records) where
    accepts : answer (run start calls) (makes_blocks list₀ records₀) ≡ accepted
    unfolding answer
    accepts = ap (λ (r : Response). r.verdict) q

    told : (H : Holding) → held_after start calls ≡ some H → learnt false (some H) (makes_blocks list₀ records₀) ≡ blocked F list records
    told H e = sym (learns_some (makes_blocks list₀ records₀) H e) ∙ q

    guaranteed : (S : Study) × (study_after start calls ≡ some S) × Guaranteed S F list
    unfolding study_after
    guaranteed = by (held_after start calls) refl
      where
        by : (h : Option Holding) → held_after start calls ≡ h → (S : Study) × (study_in (held_after start calls) ≡ some S) × Guaranteed S F list
        by none e =
            let r = sym (block_none list₀ records₀ e).1 ∙ accepts in
            absurd (let z : ◌≡◌ {A = ℕ} 0 1 = cc in omega arith)
        by (some H) e =
            (H.contents.study, ap study_in e, block_guaranteed H (valid_after H e) list₀ list records₀ records F (told H e))

    single : (S : Study) → study_after start calls ≡ some S → CanonicalBlock S F list₀ list records₀ records
    unfolding study_after
    single S e =
        let K = studied (held_after start calls) S e in
        let H = K.holding in
        subst (λ R. CanonicalBlock R F list₀ list records₀ records) K.study
        (block_canonical H (valid_after H K.is) list₀ list records₀ records F (told H K.is))

    charges : (S : Study) → study_after start calls ≡ some S
        → (response (run start calls) (prices_blocks list₀ records₀) ≡ charged F (total S) (shares S) list records)
        × StudyShares S
    unfolding study_after
    charges S e =
        let K = studied (held_after start calls) S e in
        let H = K.holding in
        let ok = valid_after H K.is in
        let block = told H K.is in
        subst
        (λ R. (response (run start calls) (prices_blocks list₀ records₀) ≡ charged F (total R) (shares R) list records) × StudyShares R)
        K.study (
          learns_some (prices_blocks list₀ records₀) H K.is ∙ block_charged H ok list₀ list records₀ records F block,
          block_shared H ok list₀ list records₀ records F block,
        )

  -- Centres is accepted
  centres_tell : (S : Study) (g count : ℕ) (l₀ l : CentreLists) → study_after start calls ≡ some S
      → response (run start calls) (finds_centres g l₀) ≡ centred count l → CentresTold S g count l₀ l
  unfolding study_after
  centres_tell S g count l₀ l e q =
      let K = studied (held_after start calls) S e in
      let H = K.holding in
      subst (λ R. CentresTold R g count l₀ l) K.study
      (centres_told H (valid_after H K.is) g count l₀ l (sym (learns_some (finds_centres g l₀) H K.is) ∙ q))

  -- Enter's own reasons answer
  enter_own : (S : Study) (setting : ℕ) (row : List ℕ) → study_after start calls ≡ some S
      → first_of (enter_reasons S setting row) ≡ answer (run start calls) (enters_tide setting row)
  unfolding study_after enters_tide verdict reasons held_reasons fresh_reasons first_of
  enter_own S setting row e =
      let K = studied (held_after start calls) S e in
      ap (λ R. first_of (enter_reasons R setting row)) (sym K.study) ∙ sym (answers_some (enters_tide setting row) K.holding K.is)

pub demand1 : Demand1
demand1 =
    record { first = first; only = only; unchanged = unchanged; unwritten = unwritten; only_reads = only_reads }

pub demand2 : Demand2
demand2 =
    record {
      holds = holds;
      settles = settles;
      exactly = exactly;
      anew = λ start before since. record { begun = begun_anew start before since };
      as_read = as_read;
      counted = counted_after;
      too_few = too_few;
      blocking = λ start calls S list₀ list records₀ records F e q. single start calls list₀ list records₀ records F q S e;
      files = files_and_datasets;
    }

pub demand3 : Demand3
demand3 = record { shaped = shaped; guaranteed = guaranteed; no_study = no_study }

pub for_tariff : ForTariff
for_tariff =
    record {
      as_block = λ start calls. as_block (run start calls);
      charges = λ start calls S list₀ list records₀ records F e q. charges start calls list₀ list records₀ records F q S e;
    }

pub for_centres : ForCentres
for_centres = record { tells = centres_tell }

pub for_enter : ForEnter
for_enter =
    record {
      refused_one = λ start calls S setting row e r. ((for_duplicates S setting row).exactly.0 (enter_own start calls S setting row e ∙ r)).1;
      accepted_none = λ start calls S setting row e a. (for_duplicates S setting row).accepted_none (enter_own start calls S setting row e ∙ a);
    }

pub duplicate_free : DuplicateFree
duplicate_free = record { stays = free_after }

-- an accepted merge: both are datasets, and what it brings in is held
holds_merged : (start : State) (calls : List Offered) (a b : State) (firsts seconds : List ℕ)
    → answer (run start calls) (merges_datasets a b firsts seconds) ≡ accepted → HoldsMerged start calls a b firsts seconds
unfolding call_of merges_datasets run changed
holds_merged start calls a b firsts seconds e =
    let ok = merges a b firsts seconds (source_accepted (run start calls) _ e).1 in
    let call = merge a b firsts seconds in
    record {
      first = true-T (is_dataset a) ok.sources.first.tested;
      second = true-T (is_dataset b) ok.sources.second.tested;
      holds = sym (holds start (calls ++ (call ∷ []))) ∙ ap held (run_append start calls (call ∷ []))
          ∙ held_accepted (run start calls) call e;
      merges = ok.contents;
    }

pub for_merge : ForMerge
for_merge = record { merged = holds_merged }
