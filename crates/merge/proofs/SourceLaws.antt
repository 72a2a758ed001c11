-- Reason 16 by what the code reads of two datasets, and what it tells of the pairs. Assumes nothing.
use Prim.Native.Nat.{ℕ, ◌+◌, ◌-◌, ◌≤◌, ◌<◌}
use native.Mathlib.Omega.{arith}
use mathlib.Core.Path.{◌≡◌, refl, sym, ap, ap₂, ◌∙◌, subst}
use mathlib.Core.Logic.{⊎_elim}
use mathlib.Core.Bool.{Bool, true, false, ◌&&◌, true≢false}
use mathlib.Core.List.{List, [], ◌∷◌}
use lib.Dec.{leb, eqb}
use lib.ListN.{length, get_or, get_or-eq_default}
use borrow.Author.Tests.{le-leb, eq-eqb, ne_eqb}
use Rattle.lists.specs.Lists.{between, every, at}
use Rattle.lists.proofs.Tests.{true-T, split, between-T, every_at}
use Rattle.lists.proofs.Scans.{and_true, each_fails, between_low, every_fails, every_done}
use Rattle.study.specs.Study.{Study, size, tide, distance}
use Rattle.validity.specs.Memory.{State, study_of}
use Rattle.validity.proofs.ValidityLaws.{study_size}
use Rattle.access.specs.Passed.{Passed}
use Rattle.merge.specs.Merge.{shared, consistent, agreeing, agree}
use Rattle.merge.specs.Sources.{Named}
use Rattle.merge.proofs.AgreeLaws.{PairAgrees, pair_agrees}

-- ---- the number of pairs

pub none_named : (f g : List ℕ) → length f ≡ 0 → eqb (length g) 0 ≡ eqb (shared f g).pairs 0
none_named f g e = let same : (shared f g).pairs ≡ length g = omega arith in rw same

pub some_named : (f g : List ℕ) → (length f ≡ 0 → ⊥) → false ≡ eqb (shared f g).pairs 0
some_named f g n = sym (ne_eqb (shared f g).pairs 0 (λ e. n (omega arith)))

pub pairs_are : (f g : List ℕ) → length g ≡ length f → (shared f g).pairs ≡ length f
pairs_are f g e = omega arith

-- ---- a number that was read

pub no_tide : (n : ℕ) {x r : ℕ} → r ≡ x → r < 1 → false ≡ between 1 n x
no_tide n {x} e l = sym (between_low 1 n x (omega arith))

pub is_tide_lem : (n : ℕ) {x r : ℕ} → r ≡ x → 1 ≤ r → leb r n ≡ between 1 n x
is_tide_lem n {x} {r} e l = let h = le-leb 1 x (omega arith) in rw (e, h)

-- ---- two pairs

module _ (A B : Study) (f g : List ℕ) (q p : ℕ) where
  pub consistent_first : at f p ≡ at f q → false ≡ consistent A B f g q p
  unfolding consistent
  consistent_first e = rw (eq-eqb (at f p) (at f q) e)

  module _ (n : at f p ≡ at f q → ⊥) where
    pub consistent_second : at g p ≡ at g q → false ≡ consistent A B f g q p
    unfolding consistent
    consistent_second e = rw (ne_eqb (at f p) (at f q) n, eq-eqb (at g p) (at g q) e)

    -- the distances decide
    pub consistent_by : {x y v w d e : ℕ} → (at g p ≡ at g q → ⊥) → x ≡ at f p - 1 → y ≡ at f q - 1 → v ≡ at g p - 1 → w ≡ at g q - 1
        → d ≡ distance A x y → e ≡ distance B v w → eqb d e ≡ consistent A B f g q p
    unfolding consistent
    consistent_by m x y v w d e =
        rw (ne_eqb (at f p) (at f q) n, ne_eqb (at g p) (at g q) m, d, e, ap₂ (distance A) x y, ap₂ (distance B) v w) (and_true _)

-- ---- a pair

module _ (a b : State) (f g : List ℕ) (q : ℕ) where
  abbrev A : Study
  A = study_of a

  abbrev B : Study
  B = study_of b

  abbrev tests : List Bool
  tests =
      between 1 (size A) (at f q)
      ∷ between 1 (size B) (at g q)
      ∷ eqb (tide A (at f q - 1)).setting (tide B (at g q - 1)).setting
      ∷ every q (consistent A B f g q)
      ∷ []

  fails : (i : ℕ) → get_or tests i true ≡ false → false ≡ agreeing A B f g q
  unfolding agreeing
  fails i e = sym (each_fails tests i e)

  -- the numbers are tested against what the records say
  first_test : {r : Bool} → between 1 a.dataset.n (at f q) ≡ r → between 1 (size A) (at f q) ≡ r
  first_test e = ap (λ (z : ℕ). between 1 z (at f q)) (study_size a) ∙ e

  second_test : {r : Bool} → between 1 b.dataset.n (at g q) ≡ r → between 1 (size B) (at g q) ≡ r
  second_test e = ap (λ (z : ℕ). between 1 z (at g q)) (study_size b) ∙ e

  pub pair_first : between 1 a.dataset.n (at f q) ≡ false → false ≡ agreeing A B f g q
  pair_first e = fails 0 (first_test e)

  pub pair_second : between 1 b.dataset.n (at g q) ≡ false → false ≡ agreeing A B f g q
  pair_second e = fails 1 (second_test e)

  module _ {i j x y : ℕ} (i_is : i ≡ at f q - 1) (j_is : j ≡ at g q - 1) (x_is : x ≡ (tide A i).setting) (y_is : y ≡ (tide B j).setting) where
    of_first : (tide A (at f q - 1)).setting ≡ x
    of_first = ap (λ z. (tide A z).setting) (sym i_is) ∙ sym x_is

    of_second : (tide B (at g q - 1)).setting ≡ y
    of_second = ap (λ z. (tide B z).setting) (sym j_is) ∙ sym y_is

    pub pair_setting : (x ≡ y → ⊥) → false ≡ agreeing A B f g q
    pair_setting n = fails 2 (ap₂ eqb of_first of_second ∙ ne_eqb x y n)

    -- the pairs before decide
    pub pair_by : {r : Bool} → between 1 a.dataset.n (at f q) ≡ true → between 1 b.dataset.n (at g q) ≡ true → x ≡ y
        → r ≡ every q (consistent A B f g q) → r ≡ agreeing A B f g q
    unfolding agreeing
    pair_by s t e r =
        let same : eqb (tide A (at f q - 1)).setting (tide B (at g q - 1)).setting ≡ true = ap₂ eqb of_first of_second ∙ eq-eqb x y e in
        r ∙ rw (first_test s, second_test t, same) (and_true _)

-- ---- all pairs

module _ (A B : Study) (f g : List ℕ) where
  pub agree_k : (A.k ≡ B.k → ⊥) → false ≡ agree A B f g
  unfolding agree
  agree_k n = rw (ne_eqb A.k B.k n)

  -- one pair decides against it
  pub agree_fails : (q : ℕ) → q < (shared f g).pairs → agreeing A B f g q ≡ false → false ≡ agree A B f g
  unfolding agree
  agree_fails q l e = sym (ap (λ r. eqb A.k B.k && r) (every_fails (agreeing A B f g) (shared f g).pairs q l e) ∙ and_false (eqb A.k B.k))
    where
      and_false : (b : Bool) → b && false ≡ false
      and_false true = refl
      and_false false = refl

  -- where one list is longer, 0 stands in the other, which is no tide's number
  past_end : (l : List ℕ) (q : ℕ) → length l ≤ q → at l q ≡ 0
  past_end l q h = get_or-eq_default l 0 h

  pub agree_lengths : (length g ≡ length f → ⊥) → false ≡ agree A B f g
  unfolding agreeing
  agree_lengths n =
      ⊎_elim
      (λ (l : length f < length g). agree_fails (length f) (omega arith) (rw (past_end f (length f) (omega arith), between_low 1 (size A) 0 (omega arith))))
      (λ (l : length g ≤ length f).
      agree_fails (length g) (shorter l) (no_second (length g) (rw (past_end g (length g) (omega arith)) (between_low 1 (size B) 0 (omega arith)))))
      (split (length f) (length g))
    where
      shorter : length g ≤ length f → length g < (shared f g).pairs
      shorter l = ⊎_elim (λ (h : length g < length f). omega arith) (λ (h : length f ≤ length g). absurd (n (omega arith))) (split (length g) (length f))

      no_second : (q : ℕ) → between 1 (size B) (at g q) ≡ false → agreeing A B f g q ≡ false
      no_second q e =
          each_fails
          (between 1 (size A) (at f q)
          ∷ between 1 (size B) (at g q)
          ∷ eqb (tide A (at f q - 1)).setting (tide B (at g q - 1)).setting
          ∷ every q (consistent A B f g q)
          ∷ [])
          1 e

  pub agree_same : agree A B f g ≡ true → length g ≡ length f
  agree_same e =
      ⊎_elim (λ (l : length f < length g). absurd (never (λ z. omega arith)))
      (λ (l : length g ≤ length f).
      ⊎_elim (λ (h : length g < length f). absurd (never (λ z. omega arith))) (λ (h : length f ≤ length g). omega arith) (split (length g) (length f)))
      (split (length f) (length g))
    where
      never : (length g ≡ length f → ⊥) → ⊥
      never n = true≢false (sym e ∙ sym (agree_lengths n))

  module _ (same : length g ≡ length f) where
    pub agree_not : (q : ℕ) → q < length f → agreeing A B f g q ≡ false → false ≡ agree A B f g
    agree_not q l e = agree_fails q (omega (arith, pairs_are f g same)) e

    pub agree_all : A.k ≡ B.k → (q : ℕ) → q ≤ length f → length f ≤ q → every q (agreeing A B f g) ≡ true → true ≡ agree A B f g
    unfolding agree
    agree_all k q l h e =
        rw (eq-eqb A.k B.k k)
        (sym (every_done (agreeing A B f g) q (shared f g).pairs (omega (arith, pairs_are f g same)) (omega (arith, pairs_are f g same)) e))

-- k is compared as the records have it
module _ (a b : State) (f g : List ℕ) where
  pub agree_other_k : (a.dataset.k ≡ b.dataset.k → ⊥) → false ≡ agree (study_of a) (study_of b) f g
  unfolding study_of
  agree_other_k n = agree_k (study_of a) (study_of b) f g n

  pub agree_every : length g ≡ length f → a.dataset.k ≡ b.dataset.k → (q : ℕ) → q ≤ length f → length f ≤ q
      → every q (agreeing (study_of a) (study_of b) f g) ≡ true → true ≡ agree (study_of a) (study_of b) f g
  unfolding study_of
  agree_every same k q l h e = agree_all (study_of a) (study_of b) f g same k q l h e

-- ---- what is known of the pairs that passed

module _ (a b : State) (f g : List ℕ) where
  pub named_by : {m : ℕ} → Passed a → Passed b → m ≤ length f → m ≤ length g → every m (agreeing (study_of a) (study_of b) f g) ≡ true → Named a b f g m
  named_by {m} first second x y e =
      record {
        first = first;
        second = second;
        first_long = x;
        second_long = y;
        first_low = λ q l. (pair q l).first_low;
        first_high = λ q l. omega (arith, (pair q l).first_high, study_size a);
        second_low = λ q l. (pair q l).second_low;
        second_high = λ q l. omega (arith, (pair q l).second_high, study_size b);
      }
    where
      pair : (q : ℕ) → q < m → PairAgrees (study_of a) (study_of b) f g q
      pair q l =
          pair_agrees (study_of a) (study_of b) f g q
          (every_at m (agreeing (study_of a) (study_of b) f g) (true-T (every m (agreeing (study_of a) (study_of b) f g)) e) q l)

  -- one pair more
  pub named_next : {q : ℕ} → Named a b f g q → q < length f → q < length g → between 1 a.dataset.n (at f q) ≡ true
      → between 1 b.dataset.n (at g q) ≡ true → Named a b f g (q + 1)
  named_next {q} N x y s t =
      let u = (between-T 1 a.dataset.n (at f q)).0 (true-T (between 1 a.dataset.n (at f q)) s) in
      let v = (between-T 1 b.dataset.n (at g q)).0 (true-T (between 1 b.dataset.n (at g q)) t) in
      record {
        first = N.first;
        second = N.second;
        first_long = omega arith;
        second_long = omega arith;
        first_low = grown (λ x. 1 ≤ at f x) N.first_low u.0;
        first_high = grown (λ x. at f x ≤ a.dataset.n) N.first_high u.1;
        second_low = grown (λ x. 1 ≤ at g x) N.second_low v.0;
        second_high = grown (λ x. at g x ≤ b.dataset.n) N.second_high v.1;
      }
    where
      grown : (K : ℕ → Type 0) → ((p : ℕ) → p < q → K p) → K q → (p : ℕ) → p < q + 1 → K p
      grown K old new p l = ⊎_elim (λ h. old p h) (λ h. let e : q ≡ p = omega arith in subst K e new) (split p q)

-- what the numbers of a pair name
module _ {a b : State} {f g : List ℕ} {m : ℕ} (N : Named a b f g m) (q : ℕ) (l : q < m) where
  pub first_number : (q < length f) × (1 ≤ at f q)
  first_number = (omega (arith, N.first_long), N.first_low q l)

  pub second_number : (q < length g) × (1 ≤ at g q)
  second_number = (omega (arith, N.second_long), N.second_low q l)

  pub first_tide : {r : ℕ} → r ≡ at f q - 1 → r < a.dataset.n
  first_tide e = omega (arith, N.first_low q l, N.first_high q l)

  pub second_tide : {r : ℕ} → r ≡ at g q - 1 → r < b.dataset.n
  second_tide e = omega (arith, N.second_low q l, N.second_high q l)
