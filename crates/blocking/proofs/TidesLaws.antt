-- The ways out of `check_tides`: short memory, 21, no tides (24), and a dataset with a tide in it. Assumes nothing.
use Rattle.std.specs.Prelude.{◌≡◌, ℕ, ◌<◌, ◌≤◌, false, not, T, eqb, [], ◌∷◌, Result, Ok, Err}
use native.Mathlib.Omega.{arith}
use mathlib.Core.Path.{refl, sym, ap, ◌∙◌, subst}
use mathlib.Core.Logic.{⊎_elim}
use borrow.Author.Tests.{eq-eqb, ne_eqb}
use Rattle.lists.proofs.Tests.{split}
use Rattle.study.specs.declared.Refusal.{Refusal}
use Rattle.study.specs.declared.Refusal.TheVariants.{NoTides}
use Rattle.study.specs.Study.{size}
use Rattle.study.specs.Refusals.{numbered, refused, verdict_of, first_of}
use Rattle.validity.specs.Memory.{State, study_of, contents_of}
use Rattle.validity.proofs.ValidityLaws.{study_size}
use Rattle.access.specs.Calls.{nobody}
use Rattle.access.specs.Passed.{Passed, held_answer}
use Rattle.access.proofs.AccessLaws.{held_own, held_refused}
use Rattle.blocking.specs.Accepted.{no_tides, TidesChecked}

-- Ok is no refusal
not_both : {A : Type 0} {a : Result Unit Refusal} {x : Refusal} {u : Unit} → a ≡ Err x → a ≡ Ok u → A
not_both e f = let z : ◌≡◌ {A = ℕ} 0 1 = cc in absurd (omega arith)

-- the test of the first reason fails where there is a tide
pub past_24 : {s : State} {first : Result Unit Refusal} {u : Unit} → TidesChecked s first → first ≡ Ok u → eqb (size (study_of s)) 0 ≡ false
past_24 {s} F done = let l = F.some_tide done in ne_eqb (size (study_of s)) 0 (λ e. omega (arith, study_size s))

-- and where it fails, there is a tide
pub tide_there : (s : State) → T (not (eqb (size (study_of s)) 0)) → 0 < s.dataset.n
tide_there s h =
    ⊎_elim (λ k. k) (λ k. absurd (subst (λ b. T (not b)) (eq-eqb (size (study_of s)) 0 (omega (arith, study_size s))) h)) (split 0 s.dataset.n)

module _ {s : State} where
  pub tides_refused : {a : Result Unit Refusal} {x : Refusal} → a ≡ Err x → refused (numbered x) ≡ held_answer s nobody (λ _. []) → TidesChecked s a
  tides_refused e f =
      record {
        refuses = λ _ _ own. ap verdict_of e ∙ held_refused s nobody (λ H. no_tides H.contents.study ∷ own H) f;
        passed = not_both e;
        some_tide = not_both e;
      }

  pub tides_none : Passed s → s.dataset.n < 1 → TidesChecked s (Err NoTides)
  unfolding contents_of first_of
  tides_none P l =
      record {
        refuses = λ _ _ own.
            sym (rw (eq-eqb (size (study_of s)) 0 (omega (arith, study_size s))))
            ∙ held_own s (λ H. no_tides H.contents.study ∷ own H) P.not_short P.tested;
        passed = not_both refl;
        some_tide = not_both refl;
      }

  pub tides_some : Passed s → 1 ≤ s.dataset.n → TidesChecked s (Ok tt)
  tides_some P l = record { refuses = λ _ e. not_both e refl; passed = λ _. P; some_tide = λ _. l }
