-- Section 3's partial solution exists exactly when an assignment does: an assignment keeps b0 tides of each block, and a partial
-- solution sends every other tide to any centre within g. Assumes nothing.
use Prim.Native.Nat.{ℕ, suc, ◌-◌, ◌≤◌, ◌<◌}
use native.Mathlib.Nat.{le_trans}
use native.Mathlib.Omega.{arith}
use mathlib.Core.Path.{◌≡◌, refl, sym, ap, ◌∙◌, subst}
use mathlib.Core.Logic.{⊎_elim}
use mathlib.Core.Bool.{Bool, cond, ◌&&◌}
use mathlib.Core.List.{List, [], head_d}
use lib.Dec.{T, leb, eqb, leb→le, nleb→lt, eqb→eq}
use lib.ListN.{length, get_or}
use Rattle.lists.specs.Lists.{sum_below, count_below, tabulate}
use Rattle.lists.proofs.Tests.{and_T, T-left, T-right, test, split, eq→eqb, cond_yes, cond_no}
use Rattle.lists.proofs.Members.{place}
use Rattle.lists.proofs.Counts.{count_le}
use Rattle.lists.proofs.Tables.{length_tabulate, get_d_tabulate}
use Rattle.study.specs.Problem.{centres, centre_of, block, labels, assignments, assignable}
use Rattle.study.specs.Study.{Study, size, tide, sufficient, problem, Valid}
use Rattle.study.specs.Theorems.{Assignment}
use Rattle.study.proofs.ProblemLaws.{cover, assignable_by, first_assignment}
use Rattle.study.specs.Minima.{Meets}
use Rattle.study.proofs.StudyLaws.{meets-T, valid_minima-T, study_lawful}
use Rattle.lists.proofs.Counting.{count_iff}
use Rattle.matching.proofs.Surplus.{of_setting, kept, count_kept, kept_each}
use Rattle.matching.specs.PartialSolution.{PartialSolution, PartialSolutionExactly}

module _ (S : Study) (ok : Valid S) (g : ℕ) where
  abbrev n : ℕ
  n = size S

  abbrev cs : List ℕ
  cs = centres (problem S) g

  abbrev setting : ℕ → ℕ
  setting t = (tide S t).setting

  -- ---- from a partial solution

  module _ (D : ℕ → ℕ) (P : PartialSolution S g D) where
    -- a block whose centre is within g of t
    record Near (t m : ℕ) : Type 0 where
      low : 1 ≤ m
      high : m ≤ length cs
      in_radius : (problem S).dist (centre_of cs m) t ≤ g

    covered : (t : ℕ) → t < n → (m : ℕ) × Near t m
    unfolding problem centre_of
    covered t l =
        let r = cover (problem S) g (study_lawful S ok.triangle) t l in
        let q = place 0 cs r.1 in
        let e : suc q.0 - 1 ≡ q.0 = omega arith in (
          suc q.0,
          record { low = omega arith; high = q.1; in_radius = subst (λ c. (problem S).dist c t ≤ g) (sym (ap (λ (i : ℕ). get_or cs i 0) e ∙ q.2)) r.2 },
        )

    -- t's own block, or else one whose centre is in-radius
    record Selected (t m : ℕ) : Type 0 where
      in_radius : Near t m
      own : 1 ≤ D t → m ≡ D t

    choose : (t : ℕ) → t < n → (m : ℕ) × Selected t m
    choose t l =
        ⊎_elim
        (λ s. let a = leb→le 1 (D t) s in
        (D t, record { in_radius = record { low = a; high = P.inside t l; in_radius = P.in_radius t l a }; own = λ b. refl }))
        (λ s. let a = nleb→lt 1 (D t) s in let r = covered t l in (r.0, record { in_radius = r.1; own = λ b. absurd (omega arith) }))
        (test (leb 1 (D t)))

    chosen : (t : ℕ) → (m : ℕ) × (t < n → Selected t m)
    chosen t = ⊎_elim (λ l. let r = choose t l in (r.0, λ k. r.1)) (λ l. (0, λ k. absurd (omega arith))) (split t n)

    xs : List ℕ
    xs = tabulate n (λ t. (chosen t).0)

    at : (t : ℕ) → t < n → Selected t (labels xs t)
    unfolding labels xs
    at t l = subst (Selected t) (sym (get_d_tabulate n (λ u. (chosen u).0) t 0 l)) ((chosen t).1 l)

    -- each block has at least the tides that it had
    more : (m t : ℕ) → 1 ≤ m → t < n → T (block D m t) → T (block (labels xs) m t)
    unfolding block
    more m t a l h = let e = eqb→eq (D t) m h in eq→eqb (labels xs t) m ((at t l).own (omega arith) ∙ e)

    enough : (m : ℕ) → 1 ≤ m → m ≤ length cs → T ((problem S).enough (block (labels xs) m))
    unfolding problem sufficient
    enough m a h =
        (meets-T S.minima n setting (block (labels xs) m)).1
        (record {
          whole = omega (arith, P.whole m a h, count_le n (block D m) (block (labels xs) m) (λ t l. more m t a l));
          each = λ j k. le_trans (P.each m a h j k)
              (count_le n (λ t. block D m t && eqb (setting t) (suc j)) (λ t. block (labels xs) m t && eqb (setting t) (suc j))
              (λ t l w. and_T (block (labels xs) m t) (eqb (setting t) (suc j)) (more m t a l (T-left (block D m t) (eqb (setting t) (suc j)) w))
              (T-right (block D m t) (eqb (setting t) (suc j)) w)));
        })

    assigned : T (assignable (problem S) g)
    unfolding problem xs
    assigned =
        assignable_by (problem S) g xs
        (record {
          long = length_tabulate n (λ t. (chosen t).0);
          low = λ t l. (at t l).in_radius.low;
          high = λ t l. (at t l).in_radius.high;
          in_radius = λ t l. (at t l).in_radius.in_radius;
          enough = enough;
        })

  -- ---- from an assignment

  module _ (xs : List ℕ) (A : Assignment (problem S) g xs) where
    -- what is left of b0 beyond the minima of the settings
    rest : ℕ
    rest = S.minima.b0 - sum_below 8 (λ j. get_or S.minima.b j 0)

    -- the tides of block m that stay
    stays : ℕ → ℕ → Bool
    stays m = kept rest S.minima.b setting (block (labels xs) m)

    D : ℕ → ℕ
    D t = cond (stays (labels xs t) t) (labels xs t) 0

    meet : (m : ℕ) → 1 ≤ m → m ≤ length cs → Meets S.minima n setting (block (labels xs) m)
    unfolding problem sufficient
    meet m a h = (meets-T S.minima n setting (block (labels xs) m)).0 (A.enough m a h)

    fit : sum_below 8 (λ j. get_or S.minima.b j 0) ≤ S.minima.b0
    fit = ((valid_minima-T S.k S.minima).0 ok.minima).sum

    stays_in : (m t : ℕ) → T (stays m t) → labels xs t ≡ m
    unfolding stays kept block
    stays_in m t h = eqb→eq (labels xs t) m (T-left (block (labels xs) m t) _ h)

    -- block m of D holds those of block m that stay
    there : (m t : ℕ) → T (stays m t) → T (block D m t)
    unfolding block D
    there m t h =
        let e = stays_in m t h in
        eq→eqb (D t) m (cond_yes (stays (labels xs t) t) (labels xs t) 0 (subst (λ i. T (stays i t)) (sym e) h) ∙ e)

    back : (m t : ℕ) → 1 ≤ m → T (block D m t) → T (stays m t)
    unfolding block D
    back m t a h =
        let e : D t ≡ m = eqb→eq (D t) m h in
        ⊎_elim
        (λ s. let q : labels xs t ≡ m = sym (cond_yes (stays (labels xs t) t) (labels xs t) 0 s) ∙ e in subst (λ i. T (stays i t)) q s)
        (λ s. let z : D t ≡ 0 = cond_no (stays (labels xs t) t) (labels xs t) 0 s in absurd (omega arith))
        (test (stays (labels xs t) t))

    kept_block : (m : ℕ) → 1 ≤ m → count_below n (block D m) ≡ count_below n (stays m)
    kept_block m a = count_iff n (block D m) (stays m) (λ t l. back m t a) (λ t l. there m t)

    own : (t : ℕ) → 1 ≤ D t → D t ≡ labels xs t
    unfolding D
    own t a =
        ⊎_elim (λ s. cond_yes (stays (labels xs t) t) (labels xs t) 0 s)
        (λ s. let z : D t ≡ 0 = cond_no (stays (labels xs t) t) (labels xs t) 0 s in absurd (omega arith)) (test (stays (labels xs t) t))

    solution : PartialSolution S g D
    unfolding problem stays rest of_setting
    solution =
        record {
          inside = λ t l. ⊎_elim (λ s. let a = leb→le 1 (D t) s in rw (own t a) (A.high t l)) (λ s. let a = nleb→lt 1 (D t) s in omega arith)
              (test (leb 1 (D t)));
          in_radius = λ t l a. rw (own t a) (A.in_radius t l);
          whole = λ m a h. let e = meet m a h in
              kept_block m a ∙ count_kept S.minima.b setting (block (labels xs) m) n ok.setting_low high S.minima.b0 e.whole e.each fit;
          each = λ m a h j k. let e = meet m a h in
              le_trans (kept_each S.minima.b setting (block (labels xs) m) n ok.setting_low high S.minima.b0 e.whole e.each fit j k)
              (count_le n (λ t. stays m t && eqb (setting t) (suc j)) (λ t. block D m t && eqb (setting t) (suc j))
              (λ t l w. and_T (block D m t) (eqb (setting t) (suc j)) (there m t (T-left (stays m t) (eqb (setting t) (suc j)) w))
              (T-right (stays m t) (eqb (setting t) (suc j)) w)));
        }
      where
        high : (t : ℕ) → t < n → setting t ≤ 8
        high t l = omega (arith, ok.setting_high t l, ok.k_high)

pub partial_solution_exactly : PartialSolutionExactly
partial_solution_exactly S ok g = (
  λ x. assigned S ok g x.0 x.1,
  λ t. let xs = head_d (assignments (problem S) g) [] in
      (D S ok g xs (first_assignment (problem S) g t), solution S ok g xs (first_assignment (problem S) g t)),
)
