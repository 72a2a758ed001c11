-- What a call makes of the reading, and what is held while tides are read. Assumes nothing.
use Prim.Native.Nat.{ℕ, ◌≤◌}
use native.Mathlib.Omega.{arith}
use mathlib.Core.Path.{◌≡◌, refl, sym, ap, ◌∙◌, subst}
use mathlib.Core.Bool.{false}
use mathlib.Core.List.{List}
use Rattle.std.specs.Prelude.{Result, Ok, Err}
use Rattle.study.specs.declared.Refusal.{Refusal}
use Rattle.study.specs.Study.{Contents}
use Rattle.study.specs.Refusals.{Verdict, accepted, verdict_of, settled, first_of}
use Rattle.study.specs.Calls.{entering}
use Rattle.study.specs.Theorems.{ValidContents}
use Rattle.validity.specs.Memory.{State, short, is_dataset, contents_of, stored}
use Rattle.validity.proofs.ValidityLaws.{study_size}
use Rattle.validity.proofs.Proofs.{for_datasets}
use Rattle.access.specs.Passed.{Passed}
use Rattle.access.proofs.AccessLaws.{stored_passed}
use Rattle.lists.proofs.Tests.{true-T}
use Rattle.study_text.specs.declared.TextError.{TextError}
use Rattle.study_text.specs.declared.Rule.{Rule}
use Rattle.study_text.specs.declared.Rule.TheVariants as RuleCase
use Rattle.text_words.specs.declared.Cursor.{Cursor}
use Rattle.text_words.specs.Words.{CursorWithin}
use Rattle.study_text.specs.Packing.{error_report, tide_reasons, Got, got, stop, called}
use Rattle.study_text.specs.Steps.{at_line}
use Rattle.study_text.specs.Reached.{Held, Took, Alive, Reaches}
use Rattle.study.proofs.CallLaws.{valid_measured}

-- ---- an answer is a value or an error

module _ {A E : Type 0} where
  pub never_err : {x : A} {e : E} → ◌≡◌ {A = Result A E} (Ok x) (Err e) → ⊥
  never_err q = let z : ◌≡◌ {A = ℕ} 0 1 = cc in omega arith

  pub same_ok : {x y : A} → ◌≡◌ {A = Result A E} (Ok x) (Ok y) → x ≡ y
  same_ok q = cc

  pub same_err : {d e : E} → ◌≡◌ {A = Result A E} (Err d) (Err e) → d ≡ e
  same_err q = cc

-- ---- what was read, by the answer

module _ {rule : Rule} {text : List ℕ} {r : Result Unit TextError} {s : State} {c : Cursor} {g : Got Contents} where
  pub reaches_goes : {done : Unit} → r ≡ Ok done → Alive rule text s c → g ≡ got (contents_of s) c → Reaches rule text r s c g
  reaches_goes e A f = record { goes = λ q. (A, f); stops = λ q. absurd (never_err (sym e ∙ q)) }

  pub reaches_stops : {x : TextError} → r ≡ Err x → g ≡ stop (error_report x) → Reaches rule text r s c g
  reaches_stops e f = record { goes = λ q. absurd (never_err (sym q ∙ e)); stops = λ q. f ∙ ap (λ x. stop (error_report x)) (same_err (sym e ∙ q)) }

-- ---- after a call

-- an answer a that leaves t, where s was: by its own verdict, and with new contents where it is accepted
pub record Answers (s : State) (a : Result Unit Refusal) (t : State) (v : Verdict) (new : Contents) : Type 0 where
  pub not_short : short s ≡ false
  pub verdict : verdict_of a ≡ v
  pub leaves : t ≡ settled v (stored new s) s
  pub valid : v ≡ accepted → ValidContents new

-- the contents that a verdict settles on are what the call reads
called_goes : {v : Verdict} {H : Contents} (new old : Contents) {c : Cursor} → accepted ≡ v → H ≡ settled v new old → called v new c ≡ got H c
called_goes {v} {H} new old {c} e f =
    ap (λ w. called w new c) (sym e) ∙ ap (λ K. got K c) (sym (f ∙ ap (λ w. settled w new old) (sym e)))

module _ {s t : State} {v : Verdict} {new : Contents} where
  answer_stored : {done : Unit} → Answers s (Ok done) t v new → t ≡ stored new s
  answer_stored A = A.leaves ∙ ap (λ w. settled w (stored new s) s) (sym A.verdict)

  -- what an accepted call leaves is a dataset
  answer_passed : {done : Unit} → Answers s (Ok done) t v new → Passed t
  answer_passed A = subst Passed (sym (answer_stored A)) (stored_passed new s A.not_short (A.valid (sym A.verdict)))

  -- a refused one leaves what was there
  answer_same : {r : Refusal} → Answers s (Err r) t v new → t ≡ s
  answer_same A = A.leaves ∙ ap (λ w. settled w (stored new s) s) (sym A.verdict)

  answer_contents : (a : Result Unit Refusal) → Answers s a t v new → contents_of t ≡ settled v new (contents_of s)
  answer_contents (Ok done) A =
      ap contents_of (answer_stored A) ∙ for_datasets.read_back new s (A.valid (sym A.verdict)) ∙ ap (λ w. settled w new (contents_of s)) A.verdict
  answer_contents (Err r) A = ap contents_of (answer_same A) ∙ ap (λ w. settled w new (contents_of s)) A.verdict

  answer_keeps : (a : Result Unit Refusal) → Answers s a t v new → Passed s → Passed t
  answer_keeps (Ok done) A p = answer_passed A
  answer_keeps (Err r) A p = subst Passed (sym (answer_same A)) p

-- what a call reads, given the numbers up to c
module _ {text : List ℕ} {s t : State} {v : Verdict} {new : Contents} {c : Cursor} (w : CursorWithin text c) where
  by_answer : (a : Result Unit Refusal) → Answers s a t v new → Reaches RuleCase.Entered text (at_line c.line a) t c (called v new c)
  by_answer (Ok done) A =
      reaches_goes {done = done} refl (record { held = answer_passed A; within = w })
      (called_goes new (contents_of s) A.verdict (answer_contents (Ok done) A))
  by_answer (Err r) A = reaches_stops refl (ap (λ w. called w new c) (sym A.verdict))

  pub call_reaches : {a : Result Unit Refusal} {r : Result Unit TextError} → Answers s a t v new → r ≡ at_line c.line a
      → Reaches RuleCase.Entered text r t c (called v new c)
  call_reaches {a} A e = subst (λ r. Reaches RuleCase.Entered text r t c (called v new c)) (sym e) (by_answer a A)

pub valid_held : {s : State} → Passed s → ValidContents (contents_of s)
valid_held {s} P = for_datasets.valid s (true-T (is_dataset s) P.tested)

-- ---- tides

-- Enter
pub took_entered : {s t : State} (a : Result Unit Refusal) {x : ℕ} {row : List ℕ}
    → Answers s a t (first_of (tide_reasons RuleCase.Entered (contents_of s).study x row)) (entering x row (contents_of s)) → Passed s
    → Took RuleCase.Entered s x row a t
took_entered a A p = record { verdict = A.verdict; contents = answer_contents a A; held = answer_keeps a A p }

-- after a tide, by either rule
module _ {rule : Rule} {text : List ℕ} {s t : State} {x : ℕ} {row : List ℕ} {c : Cursor} (w : CursorWithin text c) where
  by_tide : (a : Result Unit Refusal) → Took rule s x row a t
      → Reaches rule text (at_line c.line a) t c (called (first_of (tide_reasons rule (contents_of s).study x row)) (entering x row (contents_of s)) c)
  by_tide (Ok done) K =
      reaches_goes {done = done} refl (record { held = K.held; within = w })
      (called_goes (entering x row (contents_of s)) (contents_of s) K.verdict K.contents)
  by_tide (Err r) K = reaches_stops refl (ap (λ w. called w (entering x row (contents_of s)) c) (sym K.verdict))

  pub took_reaches : {a : Result Unit Refusal} {r : Result Unit TextError} → Took rule s x row a t → r ≡ at_line c.line a
      → Reaches rule text r t c (called (first_of (tide_reasons rule (contents_of s).study x row)) (entering x row (contents_of s)) c)
  took_reaches {a} K e =
      subst
      (λ r. Reaches rule text r t c (called (first_of (tide_reasons rule (contents_of s).study x row)) (entering x row (contents_of s)) c)) (sym e)
      (by_tide a K)

-- a rule that is known by its name
module _ {rule known : Rule} (e : rule ≡ known) where
  pub held_as : (s : State) → Held rule s → Held known s
  held_as s = subst (λ r. Held r s) e

  pub took_as : {s t : State} {x : ℕ} {row : List ℕ} {a : Result Unit Refusal} → Took known s x row a t → Took rule s x row a t
  took_as {s} {t} {x} {row} {a} = subst (λ r. Took r s x row a t) (sym e)

-- a dataset holds a measured study
pub held_by : (rule : Rule) {s : State} → Passed s → Held rule s
unfolding contents_of
held_by RuleCase.Entered P = P
held_by RuleCase.Measured P = record { not_short = P.not_short; study = valid_measured (valid_held P).study; long = P.long }

pub held_few : (rule : Rule) (s : State) → Held rule s → s.dataset.n ≤ 120
held_few RuleCase.Entered s P = P.study.few
held_few RuleCase.Measured s P = omega (arith, study_size s, P.study.few)
