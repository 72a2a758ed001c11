-- The ways out of Judge: of what the code has found out, what the call answers. Assumes nothing.
use Rattle.std.specs.Prelude.{◌≡◌, ℕ, Bool, true, false, cond, ◌&&◌, eqb, List, length, Option, Result, Ok, Err}
use mathlib.Core.Path.{refl, sym, ap, ap₂, ◌∙◌}
use lib.Dec.{eqb→eq}
use borrow.Author.Tests.{eq-eqb, ne_eqb}
use Rattle.lists.specs.Lists.{between, every}
use Rattle.lists.proofs.Tests.{not_not}
use Rattle.study.specs.declared.Minima.{Minima}
use Rattle.study.specs.declared.Refusal.{Refusal}
use Rattle.study.specs.Problem.{Problem, block, labels, greatest_diameter, feasible}
use Rattle.study.specs.Study.{Study, size, problem}
use Rattle.study.specs.Refusals.{number, numbered, Verdict, accepted, refused, verdict_of, value, first_of}
use Rattle.study.specs.Calls.{judge_reasons, approved, approval, disapproval, judgement}
use Rattle.study.proofs.CallLaws.{none_holds}
use Rattle.promise.specs.Promise.{meeting}
use Rattle.radius_theory.specs.Arrays.{array_problem}
use Rattle.validity.specs.Memory.{State, study_of, contents_of}
use Rattle.validity.proofs.ValidityLaws.{study_size}
use Rattle.access.specs.Calls.{answer, reply}
use Rattle.access.specs.Passed.{Passed}
use Rattle.access.proofs.AccessLaws.{passed_by, replies_refusal, inquiry_own, inquiry_accepted, replies}
use Rattle.blocking.specs.Calls.{judgement_numbers, judges_list, judged_reply}
use Rattle.blocking.proofs.ProblemOfArrays.{problem_of_arrays}
use Rattle.blocking_core.specs.Measured.{widest_of}
use Rattle.blocking_core.proofs.MeasuredLaws.{widest_diameter}
use Rattle.blocking.proofs.TidesLaws.{past_24}
use Rattle.blocking.specs.Accepted.{TidesChecked}

module _ (s : State) (list : List ℕ) where
  abbrev n : ℕ
  n = s.dataset.n

  abbrev S : Study
  S = study_of s

  module _ {first : Result Unit Refusal} {u : Unit} (F : TidesChecked s first) (done : first ≡ Ok u) where
    judge_own : (v : Verdict) → first_of (judge_reasons S list) ≡ v → v ≡ answer s (judges_list list)
    unfolding judges_list contents_of
    judge_own v q = sym q ∙ inquiry_own s _ (F.passed done) refl

    pub judge_12 : (length list ≡ n → ⊥) → refused (number 12) ≡ answer s (judges_list list)
    unfolding judge_reasons first_of
    judge_12 h = judge_own (refused (number 12)) (rw (past_24 F done, ne_eqb (length list) (size S) (λ e. h (e ∙ study_size s))))

    pub judge_done : length list ≡ n → accepted ≡ answer s (judges_list list)
    unfolding judge_reasons first_of
    judge_done h = judge_own accepted (rw (past_24 F done, eq-eqb (length list) (size S) (h ∙ sym (study_size s))))

  -- what an accepted call tells
  pub record JudgeAccepted : Type 0 where
    pub passed : Passed s
    pub long : length list ≡ n
    pub answer : accepted ≡ answer s (judges_list list)

  pub judge_accepted : {a : Result Unit Refusal} {u : Unit} → a ≡ Ok u → verdict_of a ≡ answer s (judges_list list) → JudgeAccepted
  unfolding judges_list contents_of judge_reasons
  judge_accepted e f =
      let q : accepted ≡ answer s (judges_list list) = sym (ap verdict_of e) ∙ f in
      let h = inquiry_accepted s _ (sym q) in
      let w = none_holds (judge_reasons S list) h.reasons in
      record {
        passed = passed_by s h.not_short h.tested;
        long = eqb→eq (length list) (size S) (not_not (eqb (length list) (size S)) w.1.0) ∙ study_size s;
        answer = q;
      }

  pub judge_refused : {r : Result (Option ℕ) Refusal} {x : Refusal} → r ≡ Err x → refused (numbered x) ≡ answer s (judges_list list)
      → judged_reply r ≡ reply s (judges_list list)
  judge_refused e f = ap judged_reply e ∙ replies_refusal s (judges_list list) f

  module _ (A : JudgeAccepted) where
    abbrev M : Minima
    M = s.dataset.minima

    -- the two tests that the code makes
    abbrev numbers : Bool
    numbers = every n (λ t. between 1 255 (labels list t))

    abbrev sufficient : Bool
    sufficient = every n (λ u. meeting M n s.settings (block (labels list) (labels list u)))

    approved_is : approved S list ≡ numbers && sufficient
    unfolding approved feasible array_problem meeting
    approved_is =
        ap₂ (λ (k : ℕ) (P : Problem). every k (λ t. between 1 255 (labels list t)) && feasible P (labels list)) (study_size s)
        (problem_of_arrays s A.passed.study)

    judged : (b : Bool) → numbers && sufficient ≡ b
        → value (judgement_numbers (cond b (approval (greatest_diameter (problem S) (labels list))) disapproval)) ≡ reply s (judges_list list)
    unfolding judges_list judgement contents_of
    judged b e =
        ap (λ z. value (judgement_numbers (cond z (approval (greatest_diameter (problem S) (labels list))) disapproval))) (sym e ∙ sym approved_is)
        ∙ replies s _ A.passed A.answer

    pub judge_number : {r : Bool} → r ≡ numbers → r ≡ false → value (judgement_numbers disapproval) ≡ reply s (judges_list list)
    judge_number e f = judged false (rw (sym e ∙ f))

    pub judge_few : {q r : Bool} → q ≡ numbers → q ≡ true → r ≡ sufficient → r ≡ false → value (judgement_numbers disapproval) ≡ reply s (judges_list list)
    judge_few d c e f = judged false (rw (sym d ∙ c, sym e ∙ f))

    pub judge_yes : {q r : Bool} {w : ℕ} → q ≡ numbers → q ≡ true → r ≡ sufficient → r ≡ true → w ≡ widest_of s.distances n (labels list) n
        → value (judgement_numbers (approval w)) ≡ reply s (judges_list list)
    judge_yes d c e f h =
        ap (λ z. value (judgement_numbers (approval z))) (h ∙ widest_diameter s.distances n (meeting M n s.settings) (labels list)
        ∙ ap (λ (P : Problem). greatest_diameter P (labels list)) (sym (problem_of_arrays s A.passed.study)))
        ∙ judged true (rw (sym d ∙ c, sym e ∙ f))
