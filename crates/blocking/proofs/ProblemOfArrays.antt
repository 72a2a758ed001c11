-- The problem that a dataset's study poses is the one that its record and memory pose. Assumes nothing.
use Rattle.std.specs.Prelude.{◌≡◌, ℕ, suc, ◌<◌, ◌≤◌, Bool, true, ◌&&◌, T, eqb, leb, ◌⊎◌, get_or}
use native.Mathlib.Omega.{arith}
use mathlib.Core.Path.{refl, sym, ap, ap₂, fun_ext, ◌∙◌, subst}
use mathlib.Core.Logic.{inl, inr}
use Rattle.lists.specs.Lists.{every}
use Rattle.lists.proofs.Tests.{split}
use Rattle.lists.proofs.Counts.{count_same}
use Rattle.study.specs.declared.Minima.{Minima}
use Rattle.study.specs.Problem.{Problem}
use Rattle.study.specs.Study.{tide, distance, meets, sufficient, problem}
use Rattle.study.specs.Theorems.{Lawful}
use Rattle.study.proofs.StudyLaws.{study_lawful}
use Rattle.promise.specs.Promise.{meeting, Able}
use Rattle.radius_theory.specs.Arrays.{within, array_problem, SizedArrays, ValidArrays}
use Rattle.radius_theory.proofs.ArrayLaws.{within_is, within_none}
use Rattle.validity.specs.Memory.{State, study_of, contents_of}
use Rattle.validity.specs.Validity.{IsStudy, Long}
use Rattle.validity.proofs.ValidityLaws.{study_size, study_setting, study_distance, valid_study}
use Rattle.validity.proofs.LayoutLaws.{distance_none}

-- settings and the set count only of the tides there are
pub meets_same : (M : Minima) (n : ℕ) {s r : ℕ → ℕ} {p q : ℕ → Bool} → ((t : ℕ) → t < n → s t ≡ r t) → ((t : ℕ) → t < n → p t ≡ q t)
    → meets M n s p ≡ meets M n r q
unfolding meets
meets_same M n {s} {r} {p} {q} h k =
    ap₂ (λ (c : ℕ) (z : ℕ → ℕ). leb M.b0 c && every 8 (λ j. leb (get_or M.b j 0) (z j)))
    (count_same n p q k)
    (fun_ext (λ j. count_same n (λ t. p t && eqb (s t) (suc j)) (λ t. q t && eqb (r t) (suc j)) (λ t l. ap₂ (λ a z. a && eqb z (suc j)) (k t l) (h t l))))

abbrev of : ℕ → (ℕ → ℕ → ℕ) → ((ℕ → Bool) → Bool) → Problem
of n d e = record { size = n; dist = d; enough = e }

module _ (s : State) (D : IsStudy s) where
  abbrev n : ℕ
  n = s.dataset.n

  same_distance : (t u : ℕ) → distance (study_of s) t u ≡ within s.distances n t u
  same_distance t u = by (split t n) (split u n)
    where
      by : (t < n) ⊎ (n ≤ t) → (u < n) ⊎ (n ≤ u) → distance (study_of s) t u ≡ within s.distances n t u
      by (inl a) (inl b) = study_distance s D t u a b ∙ sym (within_is s.distances n t u a b)
      by (inl a) (inr b) = distance_none (study_of s) t u (inr (omega (arith, study_size s))) ∙ sym (within_none s.distances n t u (inr b))
      by (inr a) b = distance_none (study_of s) t u (inl (omega (arith, study_size s))) ∙ sym (within_none s.distances n t u (inl a))

  pub problem_of_arrays : problem (study_of s) ≡ array_problem s.distances n (meeting s.dataset.minima n s.settings)
  unfolding problem array_problem sufficient study_of meeting
  problem_of_arrays =
      ap (λ z. of z (distance (study_of s)) (sufficient (study_of s))) (study_size s)
      ∙ ap₂ (of n) (fun_ext (λ t. fun_ext (λ u. same_distance t u))) (fun_ext same_enough)
    where
      same_enough : (p : ℕ → Bool) → sufficient (study_of s) p ≡ meets s.dataset.minima n (λ t. get_or s.settings t 0) p
      same_enough p =
          ap (λ z. meets (study_of s).minima z (λ t. (tide (study_of s) t).setting) p) (study_size s)
          ∙ meets_same s.dataset.minima n (study_setting s) (λ t l. refl)

  pub sized_arrays : Long s → SizedArrays (Able s.dataset.minima n s.settings) s.distances n
  sized_arrays L =
      record {
        few = D.few;
        distances_long = omega (arith, D.few, L.distances);
        able =
            record {
              small = D.minima.high;
              fit = D.minima.sum;
              settings_long = omega (arith, D.few, L.settings);
              setting_low = D.setting_low;
              setting_high = λ t l. omega (arith, D.setting_high t l, D.k_high);
            };
      }

  -- where all tides together are sufficient
  pub valid_arrays : T (sufficient (study_of s) (λ t. true)) → ValidArrays s.distances n (meeting s.dataset.minima n s.settings)
  unfolding array_problem problem study_of contents_of
  valid_arrays w =
      record {
        size = refl;
        dist = within_is s.distances n;
        small = D.distance_high;
        enough = λ p. refl;
        whole = subst (λ (P : Problem). T (P.enough (λ t. true))) problem_of_arrays w;
        lawful = subst Lawful problem_of_arrays (study_lawful (study_of s) (valid_study s D).triangle);
      }
