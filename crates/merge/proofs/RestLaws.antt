-- The remaining tides in a table, as a loop finds them. Assumes nothing.
use Prim.Native.Nat.{ℕ, ◌+◌, ◌-◌, ◌≤◌, ◌<◌}
use native.Mathlib.Omega.{arith}
use mathlib.Core.Path.{◌≡◌, sym, ap, ◌∙◌, subst}
use mathlib.Core.Logic.{⊎_elim}
use mathlib.Core.Bool.{Bool, true, false, not}
use mathlib.Core.List.{List}
use lib.Dec.{T, eqb}
use lib.ListN.{length, set, length-set}
use lib.Seq.{get_or-set_same, get_or-set_other}
use borrow.Author.Tests.{eq-eqb, ne_eqb}
use Rattle.lists.specs.Lists.{every, count_below, at}
use Rattle.lists.proofs.Tests.{true-T, split}
use Rattle.lists.proofs.Scans.{every_fails, every_done}
use Rattle.lists.proofs.Counts.{count_zero, count_yes, count_no, count_most}
use Rattle.study.specs.Limits.{max_tides}
use Rattle.study.specs.Study.{Study, size}
use Rattle.merge.specs.Merge.{Shared, shared, unshared, rest}
use Rattle.merge.specs.Sources.{NumberPairs, RestIn}
use Rattle.merge.proofs.SourceLaws.{pairs_are}
use Rattle.merge.proofs.PlaceLaws.{rest_count, rest_is}

-- ---- a tide in no pair

module _ (f g : List ℕ) (j : ℕ) (S : NumberPairs f g) where
  abbrev pub other : ℕ → Bool
  other q = not (eqb (at g q - 1) j)

  pub in_pair : {q i : ℕ} → q < length f → i ≡ at g q - 1 → i ≡ j → false ≡ unshared (shared f g) j
  unfolding unshared
  in_pair {q} l e s =
      sym (every_fails other (shared f g).pairs q (omega (arith, pairs_are f g S.same_length)) (ap not (eq-eqb (at g q - 1) j (sym e ∙ s))))

  pub in_none : (q : ℕ) → q ≤ length f → length f ≤ q → every q other ≡ true → true ≡ unshared (shared f g) j
  unfolding unshared
  in_none q l h e =
      let m = pairs_are f g S.same_length in
      sym (every_done other q (shared f g).pairs (omega (arith, m)) (omega (arith, m)) e)

pub other_more : (x : ℕ) {i j : ℕ} → i ≡ x - 1 → (i ≡ j → ⊥) → not (eqb (x - 1) j) ≡ true
other_more x {i} {j} e n = ap not (ne_eqb (x - 1) j (λ s. n (e ∙ s)))

-- ---- the table

module _ {P : Shared} where
  pub rest_none : {table : List ℕ} → length table ≡ max_tides → RestIn P 0 0 table
  rest_none e =
      record {
        size = e;
        count_is = sym (count_zero (unshared P));
        below = λ r l. absurd (omega arith);
        pass = λ r l. absurd (omega arith);
        rank = λ r l. absurd (omega arith);
      }

  module _ {j count : ℕ} {table : List ℕ} (R : RestIn P j count table) where
    pub rest_few : count ≤ j
    rest_few = omega (arith, R.count_is, count_most j (unshared P))

    -- tide j is one more
    pub rest_hit : {r : Bool} → r ≡ unshared P j → r ≡ true → count < max_tides → RestIn P (j + 1) (count + 1) (set table count j)
    rest_hit e t l =
        let pass = true-T (unshared P j) (sym e ∙ t) in
        record {
          size = simp length-set R.size;
          count_is = omega (arith, R.count_is, count_yes j (unshared P) pass);
          below = grown (λ x. x < j + 1) (λ r h. omega (arith, R.below r h)) (omega arith);
          pass = grown (λ x. T (unshared P x)) R.pass pass;
          rank = ranked;
        }
      where
        same : at (set table count j) count ≡ j
        same = get_or-set_same table count j 0 (omega (arith, R.size))

        kept : (r : ℕ) → r < count → at (set table count j) r ≡ at table r
        kept r h = get_or-set_other table count r j 0 (λ z. omega arith)

        grown : (K : ℕ → Type 0) → ((r : ℕ) → r < count → K (at table r)) → K j → (r : ℕ) → r < count + 1 → K (at (set table count j) r)
        grown K old new r h =
            ⊎_elim (λ s. subst K (sym (kept r s)) (old r s))
            (λ s. let z : count ≡ r = omega arith in subst (λ x. K (at (set table count j) x)) z (subst K (sym same) new)) (split r count)

        ranked : (r : ℕ) → r < count + 1 → count_below (at (set table count j) r) (unshared P) ≡ r
        ranked r h =
            ⊎_elim (λ s. ap (λ x. count_below x (unshared P)) (kept r s) ∙ R.rank r s)
            (λ s. let z : r ≡ count = omega arith in
            ap (λ x. count_below (at (set table count j) x) (unshared P)) z ∙ ap (λ x. count_below x (unshared P)) same ∙ sym R.count_is ∙ sym z)
            (split r count)

    -- or it is none
    pub rest_miss : {r : Bool} → r ≡ unshared P j → r ≡ false → RestIn P (j + 1) count table
    rest_miss e t =
        record {
          size = R.size;
          count_is = R.count_is ∙ sym (count_no j (unshared P) (λ h. subst T (sym e ∙ t) h));
          below = λ r h. omega (arith, R.below r h);
          pass = R.pass;
          rank = R.rank;
        }

    pub rest_done : {n : ℕ} → j ≡ n → RestIn P n count table
    rest_done e = subst (λ z. RestIn P z count table) e R

-- ---- it holds the remaining tides of a study

module _ (B : Study) (P : Shared) {n count : ℕ} {table : List ℕ} (R : RestIn P n count table) (e : size B ≡ n) where
  pub rest_long : length (rest B P) ≡ count
  rest_long = rest_count B P ∙ ap (λ z. count_below z (unshared P)) e ∙ sym R.count_is

  pub rest_at : (r : ℕ) → r < count → at (rest B P) r ≡ at table r
  rest_at r l = (rest_is B P r (at table r) (record { below = omega (arith, R.below r l); pass = R.pass r l; rank = R.rank r l })).1
