-- Laws of the record as Minima understands it (document 02, 2.2). Assumes nothing.
use Prim.Native.Nat.{ℕ, ◌≤◌, ◌<◌}
use native.Mathlib.Nat.{le_refl, le_trans}
use native.Mathlib.Omega.{arith}
use mathlib.Core.Path.{◌≡◌, refl, sym, ap, ◌∙◌, subst}
use mathlib.Core.Logic.{⊎_elim, ◌↔◌}
use mathlib.Core.Bool.{Bool, true, false, cond, not, ◌&&◌}
use lib.Dec.{T, leb, not_T, T_not}
use borrow.Author.Tests.{le-leb, lt-leb, lt-ltb, le-ltb}
use Rattle.lists.proofs.Tests.{T_true, T_false, not_not, split}
use Rattle.study.specs.declared.Minima.{Minima}
use Rattle.study.specs.Study.{Study, valid_minima}
use Rattle.study.specs.Refusals.{accepted, first_of}
use Rattle.study.specs.Calls.{sum_of_parts, understood, minima_reasons}
use Rattle.study.specs.Minima.{MinimaFit, Acceptable}
use Rattle.study.proofs.StudyLaws.{valid_minima-T}
use Rattle.study.proofs.CallLaws.{none_holds}

-- ---- how a record is understood

module _ (M : Minima) where
  abbrev pub raised : Minima
  raised = record { b0 = sum_of_parts M; b = M.b }

  pub understood_raised : 1 ≤ M.b0 → M.b0 < sum_of_parts M → understood M ≡ raised
  unfolding understood
  understood_raised l h = rw (le-leb 1 M.b0 l, lt-ltb M.b0 (sum_of_parts M) h)

  pub understood_zero : M.b0 < 1 → understood M ≡ M
  unfolding understood
  understood_zero h = rw (lt-leb 1 M.b0 h)

  pub understood_enough : sum_of_parts M ≤ M.b0 → understood M ≡ M
  unfolding understood
  understood_enough h = ap (λ b. cond (leb 1 M.b0 && b) raised M) (le-ltb M.b0 (sum_of_parts M) h) ∙ by (leb 1 M.b0)
    where
      by : (b : Bool) → cond (b && false) raised M ≡ M
      by true = refl
      by false = refl

-- ---- which records are accepted

-- what is valid is acceptable
pub fit_acceptable : {k : ℕ} {M : Minima} → MinimaFit k M → Acceptable k M
fit_acceptable F = record { low = F.low; high = F.high; eight = F.eight; sum = le_trans F.sum F.high; above = F.above }

module _ (k : ℕ) (M : Minima) where
  understood_fit : Acceptable k M → MinimaFit k (understood M)
  understood_fit A =
      ⊎_elim (λ h. subst (MinimaFit k) (sym (understood_raised M A.low h)) (as_raised h))
      (λ h. subst (MinimaFit k) (sym (understood_enough M h)) (as_given h)) (split M.b0 (sum_of_parts M))
    where
      as_raised : M.b0 < sum_of_parts M → MinimaFit k (raised M)
      as_raised h = record { low = omega (arith, A.low); high = A.sum; eight = A.eight; sum = le_refl (sum_of_parts M); above = A.above }

      as_given : sum_of_parts M ≤ M.b0 → MinimaFit k M
      as_given h = record { low = A.low; high = A.high; eight = A.eight; sum = h; above = A.above }

  understood_acceptable : MinimaFit k (understood M) → Acceptable k M
  understood_acceptable F = ⊎_elim (λ z. from_given (understood_zero M z)) from_one (split M.b0 1)
    where
      from_given : understood M ≡ M → Acceptable k M
      from_given e = fit_acceptable (subst (MinimaFit k) e F)

      from_raised : 1 ≤ M.b0 → M.b0 < sum_of_parts M → MinimaFit k (raised M) → Acceptable k M
      from_raised l h R = record { low = l; high = omega (arith, R.high); eight = R.eight; sum = R.high; above = R.above }

      from_one : 1 ≤ M.b0 → Acceptable k M
      from_one l =
          ⊎_elim (λ h. from_raised l h (subst (MinimaFit k) (understood_raised M l h) F)) (λ h. from_given (understood_enough M h))
          (split M.b0 (sum_of_parts M))

  pub acceptable-T : T (valid_minima k (understood M)) ↔ Acceptable k M
  acceptable-T =
      let e = valid_minima-T k (understood M) in (λ t. understood_acceptable (e.0 t), λ A. e.1 (understood_fit A))

  -- a valid record stays
  pub valid_understood : T (valid_minima k M) → understood M ≡ M
  valid_understood t = understood_enough M ((valid_minima-T k M).0 t).sum

  -- one that is not valid as it is, but as understood, has b0 below the sum
  pub newly_below : T (valid_minima k (understood M)) → T (not (valid_minima k M)) → M.b0 < sum_of_parts M
  newly_below t f =
      ⊎_elim (λ h. h)
      (λ (h : sum_of_parts M ≤ M.b0). absurd (T_not (valid_minima k M) f (subst (λ N. T (valid_minima k N)) (understood_enough M h) t)))
      (split M.b0 (sum_of_parts M))

  pub below_invalid : M.b0 < sum_of_parts M → T (not (valid_minima k M))
  below_invalid h = not_T (valid_minima k M) (λ t. omega (arith, ((valid_minima-T k M).0 t).sum))

  -- where the b's are together above 120, the record is valid neither as given nor as understood
  pub too_much : 120 < sum_of_parts M → (valid_minima k M ≡ false) × (valid_minima k (understood M) ≡ false)
  too_much h = (
    T_false (valid_minima k M) (not_T (valid_minima k M) (λ t. omega (arith, (fit_acceptable ((valid_minima-T k M).0 t)).sum))),
    T_false (valid_minima k (understood M)) (not_T (valid_minima k (understood M)) (λ t. omega (arith, (acceptable-T.0 t).sum))),
  )

-- ---- reason 3

module _ (S : Study) (M : Minima) where
  abbrev valid? : Bool
  valid? = valid_minima S.k (understood M)

  pub minima_accepted : T valid? ↔ (first_of (minima_reasons S M) ≡ accepted)
  unfolding minima_reasons first_of
  minima_accepted = (λ t. rw (T_true valid? t), λ e. not_not valid? (none_holds (minima_reasons S M) e).0)
