-- No call brings a duplicate in but one that begins anew, with contents that hold one. Assumes nothing.
use Prim.Native.Nat.{◌-◌}
use native.Mathlib.Omega.{arith}
use mathlib.Core.Path.{◌≡◌, refl, sym, ◌∙◌, subst}
use mathlib.Core.Bool.{Bool, true, false}
use mathlib.Core.List.{List, [], ◌∷◌}
use mathlib.Core.List.Memᴰ.{head as here}
use mathlib.Core.List.Memᴰ.{tail as there}
use mathlib.Core.Option.{Option, none, some}
use Rattle.lists.specs.Lists.{◌among◌}
use Rattle.study.specs.Study.{Contents}
use Rattle.study.specs.Refusals.{Verdict, accepted, refused, settled, first_of}
use Rattle.study.specs.Calls.{opening, understood, setting_minima, holds_duplicate, entering, withdrawing}
use Rattle.study.proofs.CallLaws.{withdraws}
use Rattle.study.proofs.LadderLaws.{ladder_accepts}
use Rattle.study.proofs.DuplicateLaws.{none_set, none_withdrawn}
use Rattle.study.proofs.Proofs.{for_duplicates}
use Rattle.file_format.specs.File.{decoded}
use Rattle.validity.specs.Memory.{State, short, contents_of}
use Rattle.access.specs.Calls.{Update, changes, Holding, held, reasons, verdict, changed, step}
use Rattle.dataset.specs.Calls.{opens_dataset, sets_minima, enters_tide, withdraws_tide}
use Rattle.study_file.specs.Calls.{reads_file}
use Rattle.merge.specs.Merge.{merged}
use Rattle.merge.specs.Calls.{merges_datasets}
use Rattle.guarantee.specs.Runs.{Offered, open_with, read_file, merge, set_minima, enter, withdraw, ask, call_of, brings_in, run, following, held_after}
use Rattle.guarantee.specs.Counts.{accepted_calls}
use Rattle.guarantee.proofs.Follows.{holds}

-- what is held, if anything, holds none
abbrev Free : Option Holding → Type 0
Free none = Unit {0}
Free (some H) = holds_duplicate H.contents.study ≡ false

-- nothing that these calls bring in holds one
abbrev BringsNone : List Offered → Type 0
BringsNone calls = (c : Offered) (C : Contents) → c among calls → brings_in (call_of c) ≡ some C → holds_duplicate C.study ≡ false

module _ (is_too_short : Bool) where
  -- an accepted change
  free_changing : (U : Update)
      → ((H : Holding) → first_of (U.own H) ≡ accepted → holds_duplicate H.contents.study ≡ false → holds_duplicate (U.makes H).contents.study ≡ false)
      → (h : Option Holding) → verdict is_too_short h (changes U) ≡ accepted → Free h → Free (changed h (changes U))
  unfolding verdict reasons changed
  free_changing U keeps none e F = tt
  free_changing U keeps (some H) e F =
      keeps H (ladder_accepts is_too_short U.caller.users true (U.own H) e).reasons F

  -- an accepted call
  free_changed : (c : Offered) (cs : List Offered) (h : Option Holding) → BringsNone (c ∷ cs) → verdict is_too_short h (call_of c) ≡ accepted → Free h
      → Free (changed h (call_of c))
  unfolding call_of opens_dataset reads_file merges_datasets sets_minima enters_tide withdraws_tide changed opening setting_minima entering withdrawing
  free_changed (open_with k) cs h clean e F = clean (open_with k) (opening k) (here refl) refl
  free_changed (read_file file) cs h clean e F = clean (read_file file) (decoded file) (here refl) refl
  free_changed (merge a b firsts seconds) cs h clean e F =
      clean (merge a b firsts seconds) (merged (contents_of a) (contents_of b) firsts seconds) (here refl) refl
  free_changed (set_minima M) cs h clean e F = free_changing _ (λ H r G. none_set (understood M) H.contents.study ∙ G) h e F
  free_changed (enter setting row) cs h clean e F = free_changing _ (λ H r G. (for_duplicates H.contents.study setting row).none_after G r) h e F
  free_changed (withdraw u t) cs h clean e F =
      free_changing _ (λ H r G. let w = withdraws H.contents u t r in none_withdrawn (t - 1) H.contents.study (omega (arith, w.low, w.high)) G) h e F
  free_changed (ask Q) cs h clean e F = F

  free_following : (cs : List Offered) (h : Option Holding) → BringsNone (accepted_calls is_too_short h cs) → Free h → Free (following is_too_short h cs)
  unfolding following accepted_calls step
  free_following [] h clean F = F
  free_following (c ∷ cs) h clean F = by (λ t k G. free_following cs t k G) (verdict is_too_short h (call_of c)) refl clean
    where
      -- the rest of the calls, from anywhere
      Rest : Type 0
      Rest = (t : Option Holding) → BringsNone (accepted_calls is_too_short t cs) → Free t → Free (following is_too_short t cs)

      by : Rest → (v : Verdict) → verdict is_too_short h (call_of c) ≡ v
          → let next = settled v (changed h (call_of c)) h in
          let rest = accepted_calls is_too_short next cs in
          BringsNone (settled v (c ∷ rest) rest) → Free (following is_too_short next cs)
      by go accepted e k = go (changed h (call_of c)) (λ d C m. k d C (there m))
          (free_changed c (accepted_calls is_too_short (changed h (call_of c)) cs) h k e F)
      by go (refused r) e k = go h k F

free_start : (h : Option Holding) → ((H : Holding) → h ≡ some H → holds_duplicate H.contents.study ≡ false) → Free h
free_start none f = tt
free_start (some H) f = f H refl

pub free_after : (start : State) (calls : List Offered) → ((H : Holding) → held start ≡ some H → holds_duplicate H.contents.study ≡ false)
    → BringsNone (accepted_calls (short start) (held start) calls) → (H : Holding) → held (run start calls) ≡ some H
    → holds_duplicate H.contents.study ≡ false
unfolding held_after
free_after start calls begin clean H e =
    subst Free (sym (holds start calls) ∙ e) (free_following (short start) calls (held start) clean (free_start (held start) begin))
