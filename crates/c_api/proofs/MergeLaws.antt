-- A merge whose sources' records are held as the code holds them does what it does with the records that are given. Assumes nothing.
use Rattle.std.specs.Prelude.{◌≡◌, ℕ, ◌<◌, ◌≤◌, Bool, true, false, ◌&&◌, ◌||◌, ◌⊎◌, List, [], length}
use mathlib.Core.Path.{refl, sym, ap, ap₂, ◌∙◌}
use mathlib.Core.Logic.{inl, inr}
use mathlib.Core.Bool.{true≢false}
use Rattle.study.specs.declared.Dataset.{Dataset}
use Rattle.study.specs.Refusals.{Verdict, first_of, fresh_reasons, held_reasons}
use Rattle.study.proofs.LadderLaws.{ladder_accepts}
use Rattle.validity.specs.Memory.{State, short, is_dataset, contents_of}
use Rattle.access.specs.Calls.{answer, after}
use Rattle.narrowing.specs.Narrowing.{narrow_dataset, narrow_state, Alike}
use Rattle.narrowing.proofs.Proofs.{cut_or_none, source_same}
use Rattle.merge.specs.Merge.{merge_reasons}
use Rattle.merge.specs.Calls.{source_reasons, merges_datasets}
use Rattle.c_records.specs.Record.{Lent, record_size, dataset_of, state_in}
use Rattle.c_records.proofs.RecordLaws.{with_record}
use Rattle.c_api.specs.Api.{lacks, merge_of}
use Rattle.c_api.proofs.CallLaws.{lacks_yes, lacks_no, Did}

-- ---- the records of the sources

module _ (a b : List ℕ) where
  pub first_lacks : length a < record_size → lacks record_size a || lacks record_size b ≡ true
  first_lacks h = rw (lacks_yes record_size a h)

  pub second_lacks : record_size ≤ length a → length b < record_size → lacks record_size a || lacks record_size b ≡ true
  second_lacks l h = rw (lacks_no record_size a l, lacks_yes record_size b h)

  pub neither_lacks : record_size ≤ length a → record_size ≤ length b → lacks record_size a || lacks record_size b ≡ false
  neither_lacks l h = rw (lacks_no record_size a l, lacks_no record_size b h)

-- ---- the records as the code holds them

module _ (s a b : State) (firsts seconds : List ℕ) where
  -- one of them is no dataset, whichever way
  no_source : is_dataset (narrow_state a) && is_dataset (narrow_state b) ≡ false → is_dataset a && is_dataset b ≡ false
      → Alike s (merges_datasets (narrow_state a) (narrow_state b) firsts seconds) (merges_datasets a b firsts seconds)
  unfolding merges_datasets source_reasons held_reasons fresh_reasons first_of short
  no_source e f =
      source_same s _ _ (rw (e, f)) (λ q.
      let own = merge_reasons (contents_of a) (contents_of b) firsts seconds in
      absurd (true≢false (sym (ladder_accepts (short a || short b) [] (is_dataset a && is_dataset b) own q).tested ∙ f)))

  merge_alike : Alike s (merges_datasets (narrow_state a) (narrow_state b) firsts seconds) (merges_datasets a b firsts seconds)
  merge_alike = by (cut_or_none a) (cut_or_none b)
    where
      right_false : (x : Bool) {y : Bool} → y ≡ false → x && y ≡ false
      right_false true e = e
      right_false false e = refl

      left_false : {x : Bool} (y : Bool) → x ≡ false → x && y ≡ false
      left_false y e = ap (λ z. z && y) e

      by : (narrow_state a ≡ a) ⊎ ((is_dataset (narrow_state a) ≡ false) × (is_dataset a ≡ false))
          → (narrow_state b ≡ b) ⊎ ((is_dataset (narrow_state b) ≡ false) × (is_dataset b ≡ false))
          → Alike s (merges_datasets (narrow_state a) (narrow_state b) firsts seconds) (merges_datasets a b firsts seconds)
      by (inl p) (inl q) =
          (ap₂ (λ x y. answer s (merges_datasets x y firsts seconds)) p q, ap₂ (λ x y. after s (merges_datasets x y firsts seconds)) p q)
      by (inr n) q = no_source (left_false (is_dataset (narrow_state b)) n.0) (left_false (is_dataset b) n.1)
      by (inl p) (inr n) = no_source (right_false (is_dataset (narrow_state a)) n.0) (right_false (is_dataset a) n.1)

pub merge_given : (s : State) (a b : Lent) {x y : Dataset} (firsts seconds : List ℕ) {w : Verdict} {t : State}
    → x ≡ narrow_dataset (dataset_of a.numbers) → y ≡ narrow_dataset (dataset_of b.numbers)
    → Did s w t (merges_datasets (with_record a x) (with_record b y) firsts seconds) → Did s w t (merge_of a b firsts seconds)
unfolding state_in
merge_given s a b firsts seconds p q did =
    let same = merge_alike s (state_in a) (state_in b) firsts seconds in (
      did.0 ∙ ap₂ (λ x y. answer s (merges_datasets (with_record a x) (with_record b y) firsts seconds)) p q ∙ same.0,
      did.1 ∙ ap₂ (λ x y. after s (merges_datasets (with_record a x) (with_record b y) firsts seconds)) p q ∙ same.1,
    )
