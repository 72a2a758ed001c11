-- The records `For..` of Theorems.antt. Assumes nothing.
use Prim.Native.Nat.{ℕ, ◌<◌}
use native.Mathlib.Omega.{arith}
use mathlib.Core.Path.{sym, subst}
use mathlib.Core.Bool.{true}
use mathlib.Core.List.{List}
use lib.Dec.{T}
use lib.ListN.{length}
use Rattle.study.specs.declared.Minima.{Minima}
use Rattle.study.specs.Problem.{Problem, centres, labels, radius, blocking}
use Rattle.study.specs.Study.{Study, problem, valid_minima, Valid}
use Rattle.study.specs.Theorems.{Lawful, Canonical, ForProblem, ForNearest, ForStudy, ForCalls, ForMinima, ForDuplicates}
use Rattle.study.proofs.ProblemLaws.{cover, apart, assignments_are, assignable_by, greatest_diameter_is, feasible-T}
use Rattle.study.proofs.Approximation.{two_approximation, one_block, feasible_radius, blocking_assigns, feasible_exactly, assignable_exactly}
use Rattle.study.proofs.Dictionary.{blocking_precedes, blocking_found}
use Rattle.study.proofs.NearestLaws.{centre_le, nearest_block_lem, nearest_only, some_centre}
use Rattle.study.proofs.StudyLaws.{study_symmetric, study_lawful, study_reordered, ample-T}
use Rattle.study.proofs.CallLaws.{opening_valid, minima_valid, entering_valid, withdrawing_valid}
use Rattle.study.proofs.DuplicateLaws.{refused_duplicate, duplicate_refused, accepted_none, none_entered, one_entered, still_valid}
use Rattle.study.proofs.MinimaLaws.{acceptable-T, valid_understood, newly_below, below_invalid, minima_accepted}

pub canonical : (P : Problem) → Lawful P → T (P.enough (λ t. true)) → Canonical P
canonical P L h =
    let F = one_block P L h in
    let A = blocking_assigns P L (λ t. 1) F in
    let R = feasible_radius P L (λ t. 1) F in
    record {
      assignment = A;
      candidate = R.candidate;
      lowest = λ g m xs B. R.lowest g m (assignable_by P g xs B);
      first = blocking_precedes P;
      widest = greatest_diameter_is P (labels (blocking P)) (length (centres P (radius P))) A.low A.high;
    }

pub for_problem : (P : Problem) → Lawful P → ForProblem P
for_problem P L =
    record {
      cover = λ g. cover P g L;
      apart = apart P;
      assignments_are = assignments_are P;
      bounded = λ Q Y R D F. two_approximation P Q L Y R D F;
      feasible_exactly = feasible_exactly P L;
      assignable_exactly = assignable_exactly P L;
      canonical = canonical P L;
      found = blocking_found P;
      feasible_test = feasible-T P;
    }

pub for_nearest : (P : Problem) → Lawful P → (g t : ℕ) → t < P.size → ForNearest P g t
for_nearest P L g t l =
    let first = nearest_block_lem P.dist (centres P g) t (some_centre P L g t l) in
    let c = cover P g L t l in
    record {
      nearest = first.1;
      only = λ m N. (nearest_only P.dist (centres P g) t m N).0;
      distance = first.0;
      in_radius = omega (arith, centre_le P.dist (centres P g) t c.1, c.2);
    }

pub for_study : (S : Study) → Valid S → ForStudy S
unfolding problem
for_study S ok =
    let L = study_lawful S ok.triangle in
    record {
      lawful = L;
      bounded = λ R N D F. two_approximation (problem S) (problem R) L (study_symmetric R) (study_reordered S R N) D F;
      ample_exactly = λ s. let e = feasible_exactly (problem S) L s in let a = ample-T S in (λ d. a.0 (e.0 d), λ m. e.1 (a.1 m));
    }

pub for_calls : ForCalls
for_calls = record { on_open = opening_valid; on_minima = minima_valid; on_enter = entering_valid; on_withdraw = withdrawing_valid }

pub for_minima : (S : Study) (M : Minima) → ForMinima S M
for_minima S M =
    let a = acceptable-T S.k M in
    let r = minima_accepted S M in
    record {
      exactly = (λ e. a.0 (r.1 e), λ A. r.0 (a.1 A));
      as_before = λ t.
          let e = valid_understood S.k M t in (r.0 (subst (λ N. T (valid_minima S.k N)) (sym e) t), e);
      newly = (
        λ n. (a.0 (r.1 n.0), newly_below S.k M (r.1 n.0) n.1),
        λ m. (r.0 (a.1 m.0), below_invalid S.k M m.1),
      );
    }

pub for_duplicates : (S : Study) (setting : ℕ) (row : List ℕ) → ForDuplicates S setting row
for_duplicates S s row =
    record {
      exactly = (refused_duplicate s row S, λ h. duplicate_refused s row S h.0 h.1);
      accepted_none = accepted_none s row S;
      none_after = none_entered s row S;
      one_after = one_entered s row S;
      still_valid = λ ok e. still_valid s row S e ok;
    }
