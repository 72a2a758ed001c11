-- Duplicates (document 02, 2.8: twins): which calls bring one in, and which do not. Assumes nothing.
use Prim.Native.Nat.{ℕ, ◌<◌}
use native.Mathlib.Omega.{arith}
use mathlib.Core.Path.{◌≡◌, refl, sym, ap, ap₂, ◌∙◌, subst}
use mathlib.Core.Logic.{◌↔◌}
use mathlib.Core.Bool.{Bool, true, false, not}
use mathlib.Core.List.{List, [], ◌∷◌}
use lib.Dec.{T, eqb, eqb→eq, T_not}
use lib.ListN.{get_or, take}
use Rattle.lists.specs.Lists.{every, any, is_empty}
use Rattle.lists.proofs.Tests.{T_true, T_false, true-T, not_not, eq→eqb, and_T, T-left, T-right, every_same, any_at, any_of, none_at, none_of, any_first}
use Rattle.study.specs.declared.Minima.{Minima}
use Rattle.study.specs.Study.{Tide, Study, size, tide, distance, Valid}
use Rattle.study.specs.Refusals.{number, accepted, refused, ◌⇒◌, first_of}
use Rattle.study.specs.Calls.{opened, with_minima, Pair, violations, first_violation, alike, duplicated, holds_duplicate, enter_reasons, entered}
use Rattle.study.specs.Calls.{withdrawn, skip}
use Rattle.study.specs.Theorems.{DuplicateOf}
use Rattle.study.proofs.CallLaws.{NoneHolds, none_holds, entered_size, entered_old, entered_new, entered_held, entered_column, each_number}
use Rattle.study.proofs.CallLaws.{measures_by, obeying_valid, enters, skip_order, withdrawn_setting, withdrawn_distance, skip_inside}
use Rattle.study.proofs.ReasonLaws.{holds_none, refused_at, refused_last}

-- by settings and distances alone
pub duplicated_same : (n x : ℕ) (f g d e : ℕ → ℕ) → ((i : ℕ) → i < n → f i ≡ g i) → ((i : ℕ) → i < n → d i ≡ e i)
    → duplicated f n x d ≡ duplicated g n x e
unfolding duplicated
duplicated_same n x f g d e s p =
    ap not (every_same n _ _ (λ i l. ap not (ap₂ (λ y c. alike y x c) (s i l) (p i l))))

-- whether tide u is a duplicate of a tide before it
abbrev pub duplicate_at : Study → ℕ → Bool
duplicate_at S u = duplicated (λ t. (tide S t).setting) u (tide S u).setting (distance S u)

-- where a study holds none, no tide is one
pub none_duplicate : (S : Study) → holds_duplicate S ≡ false → (u : ℕ) → u < size S → duplicate_at S u ≡ false
unfolding holds_duplicate
none_duplicate S = none_at (size S) (duplicate_at S)

-- the first, where it holds one
pub first_duplicate : (S : Study) → holds_duplicate S ≡ true
    → (t : ℕ) × (t < size S) × (duplicate_at S t ≡ true) × ((u : ℕ) → u < t → duplicate_at S u ≡ false)
unfolding holds_duplicate
first_duplicate S some =
    let r = any_first (size S) (duplicate_at S) (true-T (any (size S) (duplicate_at S)) some) in
    (r.0, r.1, T_true (duplicate_at S r.0) r.2, λ u l. T_false (duplicate_at S u) (r.3 u l))

-- ---- Enter

-- another reason's number
not_15 : (x : ℕ) → T (not (eqb x 15)) → number x ≡ number 15 → ⊥
not_15 x t q = let e : x ≡ 15 = cc in T_not (eqb x 15) t (eq→eqb x 15 e)

seven_not_15 : (ps : List Pair) → first_violation ps ≡ number 15 → ⊥
seven_not_15 [] q = not_15 7 tt q
seven_not_15 (p ∷ ps) q = let z : ◌≡◌ {A = ℕ} 0 1 = cc in omega arith

module _ (s : ℕ) (row : List ℕ) (S : Study) where
  abbrev E : Study
  E = entered s row S

  -- whether the new tide is a duplicate of a tide held
  abbrev again : Bool
  again = duplicated (λ i. (tide S i).setting) (size S) s (λ i. get_or row i 0)

  -- whether it is one of tide i
  abbrev again_of : ℕ → Bool
  again_of i = alike (tide S i).setting s (get_or row i 0)

  again_of-T : (i : ℕ) → T (again_of i) ↔ (((tide S i).setting ≡ s) × (get_or row i 0 ≡ 0))
  again_of-T i =
      let zero = eqb (get_or row i 0) 0 in
      let same = eqb (tide S i).setting s in (
        λ t. (eqb→eq (tide S i).setting s (T-right zero same t), eqb→eq (get_or row i 0) 0 (T-left zero same t)),
        λ h. and_T zero same (eq→eqb (get_or row i 0) 0 h.1) (eq→eqb (tide S i).setting s h.0),
      )

  again-T : T again ↔ DuplicateOf S s row
  unfolding duplicated
  again-T = (
    λ t.
        let r = any_at (size S) again_of t in
        let h = (again_of-T r.0).0 r.2 in
        record { held = r.0; inside = r.1; same_setting = h.0; at_zero = h.1 },
    λ D. any_of (size S) again_of D.held D.inside ((again_of-T D.held).1 (D.same_setting, D.at_zero)),
  )

  -- the tides held are duplicates of each other as before
  entered_before : (u : ℕ) → u < size S → duplicate_at E u ≡ duplicate_at S u
  entered_before u l =
      duplicated_same u (tide E u).setting _ _ _ _ (λ t a. ap (λ (x : Tide). x.setting) (entered_old s row S t (omega arith)))
      (λ t a. entered_held s row S u t l (omega arith))
      ∙ ap (λ (x : Tide). duplicated (λ t. (tide S t).setting) u x.setting (distance S u)) (entered_old s row S u l)

  -- the new one by its setting and its row
  entered_last : duplicate_at E (size S) ≡ again
  entered_last =
      duplicated_same (size S) (tide E (size S)).setting _ _ _ _ (λ t a. ap (λ (x : Tide). x.setting) (entered_old s row S t a))
      (λ t a. entered_column s row S t a)
      ∙ ap (λ (x : Tide). duplicated (λ t. (tide S t).setting) (size S) x.setting (λ i. get_or row i 0)) (entered_new s row S)

  pub none_entered : holds_duplicate S ≡ false → first_of (enter_reasons S s row) ≡ accepted → holds_duplicate E ≡ false
  unfolding holds_duplicate
  none_entered none e =
      none_of (size E) (duplicate_at E)
      (each_number s row S (λ u. duplicate_at E u ≡ false) (λ u l. entered_before u l ∙ none_duplicate S none u l)
      (entered_last ∙ T_false again (enters S s row e).new))

  -- refused 15: no other reason holds
  module _ (e : first_of (enter_reasons S s row) ≡ refused (number 15)) where
    refused_so : NoneHolds (take 5 (enter_reasons S s row)) × T again
    unfolding enter_reasons
    refused_so =
        refused_last (take 5 (enter_reasons S s row)) (again ⇒ number 15)
        (not_15 22 tt, (not_15 4 tt, (not_15 5 tt, (not_15 6 tt, (seven_not_15 (violations (distance S) (size S) (λ i. get_or row i 0)), tt))))) e

    pub refused_duplicate : (first_of (take 5 (enter_reasons S s row)) ≡ accepted) × DuplicateOf S s row
    refused_duplicate = (holds_none (take 5 (enter_reasons S s row)) refused_so.0, again-T.0 refused_so.1)

    pub one_entered : holds_duplicate E ≡ true
    unfolding holds_duplicate
    one_entered =
        T_true (any (size E) (duplicate_at E)) (any_of (size E) (duplicate_at E) (size S) (omega (arith, entered_size s row S))
        (subst T (sym entered_last) refused_so.1))

    pub still_valid : Valid S → Valid E
    unfolding enter_reasons
    still_valid ok =
        let h = refused_so.0 in
        obeying_valid s row S ok (measures_by S s row h.0 h.1.0 h.1.1.0 h.1.1.1.0)
        (not_not (is_empty (violations (distance S) (size S) (λ i. get_or row i 0))) h.1.1.1.1.0)

  -- where no reason before 15 holds, a duplicate of a tide held is refused by it
  pub duplicate_refused : first_of (take 5 (enter_reasons S s row)) ≡ accepted → DuplicateOf S s row
      → first_of (enter_reasons S s row) ≡ refused (number 15)
  unfolding enter_reasons
  duplicate_refused e D = refused_at (enter_reasons S s row) 5 (none_holds (take 5 (enter_reasons S s row)) e) (again-T.1 D)

  pub accepted_none : first_of (enter_reasons S s row) ≡ accepted → DuplicateOf S s row → ⊥
  accepted_none e D = T_not again (enters S s row e).new (again-T.1 D)

-- ---- the other calls

pub none_opened : (k : ℕ) → holds_duplicate (opened k) ≡ false
unfolding holds_duplicate opened every
none_opened k = refl

pub none_set : (M : Minima) (S : Study) → holds_duplicate (with_minima M S) ≡ holds_duplicate S
unfolding holds_duplicate with_minima tide distance
none_set M S = refl

module _ (i : ℕ) (S : Study) (held : i < size S) where
  abbrev W : Study
  W = withdrawn i S

  -- tide u is a duplicate of tide t
  abbrev twice : Study → ℕ → ℕ → Bool
  twice R u t = alike (tide R t).setting (tide R u).setting (distance R u t)

  -- tides that stay are duplicates as before
  stayed : (u t : ℕ) → twice W u t ≡ twice S (skip i u) (skip i t)
  stayed u t = λ j. alike (withdrawn_setting i S t j) (withdrawn_setting i S u j) (withdrawn_distance i S u t j)

  none_stayed : (u : ℕ) → duplicate_at S (skip i u) ≡ false → duplicate_at W u ≡ false
  unfolding duplicated
  none_stayed u none =
      none_of u (twice W u) (λ t l. stayed u t ∙ none_at (skip i u) (twice S (skip i u)) none (skip i t) ((skip_order i t u).strict l))

  pub none_withdrawn : holds_duplicate S ≡ false → holds_duplicate W ≡ false
  unfolding holds_duplicate
  none_withdrawn none =
      none_of (size W) (duplicate_at W) (λ u l. none_stayed u (none_duplicate S none (skip i u) (skip_inside i S held u l)))
