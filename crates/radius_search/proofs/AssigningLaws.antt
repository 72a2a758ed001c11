-- What the search finds in the table of a radius is an assignment there, with blocks numbered from 0. Assumes nothing.
use Prim.Native.Nat.{ℕ, suc, ◌-◌, ◌≤◌, ◌<◌}
use native.Mathlib.Omega.{arith}
use mathlib.Core.Path.{◌≡◌, sym, ap, ◌∙◌, subst}
use mathlib.Core.Bool.{Bool, true, false, not}
use mathlib.Core.List.{List}
use lib.Dec.{T, leb, eqb, leb→le, le→leb, eqb→eq}
use lib.ListN.{get_or}
use Rattle.lists.specs.Lists.{bit, tabulate}
use Rattle.lists.proofs.Tests.{T_true, eq→eqb}
use Rattle.lists.proofs.Members.{getD_mem}
use Rattle.lists.proofs.Tables.{length_tabulate, get_d_tabulate}
use Rattle.study.specs.Limits.{cell}
use Rattle.study.specs.Problem.{Problem, centres, centre_of, block, labels}
use Rattle.study.specs.Theorems.{Assignment}
use Rattle.study.proofs.ProblemLaws.{centre_below}
use Rattle.promise.specs.Promise.{Test, allows, Assigning, Assigned}
use Rattle.radius_theory.specs.Arrays.{array_problem, ValidArrays}
use Rattle.radius_search.specs.Front.{Front}
use Rattle.radius_search.proofs.FrontLaws.{front_at}
use Rattle.radius_search.specs.Table.{entry}

-- the labels of an assignment whose blocks are numbered from 0, numbered from 1
unfoldable pub numbered : ℕ → (ℕ → ℕ) → List ℕ
numbered n D = tabulate n (λ t. suc (D t))

pub numbered_at : (n : ℕ) (D : ℕ → ℕ) (t : ℕ) → t < n → labels (numbered n D) t ≡ suc (D t)
unfolding numbered labels
numbered_at n D t l = get_d_tabulate n (λ t. suc (D t)) t 0 l

module _ {d : List ℕ} {n : ℕ} {E : Test} (Q : ValidArrays d n E) (g count : ℕ) (cs : List ℕ) (F : Front cs count (centres (array_problem d n E) g)) where
  abbrev P : Problem
  P = array_problem d n E

  -- centre m, as a tide
  centre_lt : (m : ℕ) → m < count → get_or cs m 0 < n
  unfolding array_problem
  centre_lt m l = rw (front_at F m l) (centre_below P g (getD_mem 0 (centres P g) m (omega (arith, F.long))))

  pub centre_dist : (m t : ℕ) → m < count → t < n → P.dist (get_or (centres P g) m 0) t ≡ cell d (get_or cs m 0) t
  centre_dist m t l k = ap (λ z. P.dist z t) (sym (front_at F m l)) ∙ Q.dist (get_or cs m 0) t (centre_lt m l) k

  -- an assignment at g is one by every relation that holds of the tides near a centre
  pub assigning_by : (May : ℕ → ℕ → Type 0) → ((t m : ℕ) → t < n → m < count → cell d (get_or cs m 0) t ≤ g → May t m)
      → (xs : List ℕ) → Assignment P g xs → Assigning n count E May (λ t. labels xs t - 1)
  unfolding array_problem centre_of block
  assigning_by May near xs B =
      record {
        below = below;
        may = λ t l. near t (labels xs t - 1) l (below t l) (rw (centre_dist (labels xs t - 1) t (below t l) l) at (B.in_radius t l));
        enough = λ m l.
            Q.lawful.upward (block (labels xs) (suc m)) (block (λ t. labels xs t - 1) m)
            (λ t k u. eq→eqb (labels xs t - 1) m (let e = eqb→eq (labels xs t) (suc m) u in omega arith))
            (B.enough (suc m) (omega arith) (omega (arith, F.long)));
      }
    where
      below : (t : ℕ) → t < n → labels xs t - 1 < count
      below t l = omega (arith, B.low t l, B.high t l, F.long)

  -- and back
  pub assigns_by : (May : ℕ → ℕ → Type 0) → ((t m : ℕ) → t < n → m < count → May t m → cell d (get_or cs m 0) t ≤ g)
      → (D : ℕ → ℕ) → Assigning n count E May D → Assignment P g (numbered n D)
  unfolding array_problem numbered centre_of block
  assigns_by May near D B =
      record {
        long = length_tabulate n (λ t. suc (D t));
        low = λ t l. omega (arith, numbered_at n D t l);
        high = λ t l. omega (arith, numbered_at n D t l, B.below t l, F.long);
        in_radius = λ t l.
            let e : labels (numbered n D) t - 1 ≡ D t = omega (arith, numbered_at n D t l) in
            rw (e, centre_dist (D t) t (B.below t l) l) (near t (D t) l (B.below t l) (B.may t l));
        enough = λ m a k.
            Q.lawful.upward (block D (m - 1)) (block (labels (numbered n D)) m)
            (λ t l u. eq→eqb (labels (numbered n D) t) m (let e = eqb→eq (D t) (m - 1) u in omega (arith, numbered_at n D t l)))
            (B.enough (m - 1) (omega (arith, F.long)));
      }

  module _ (allowed : List ℕ) (A : (t m : ℕ) → t < n → m < count → cell allowed m t ≡ entry d cs g t m) where
    near_allows : (t m : ℕ) → t < n → m < count → cell d (get_or cs m 0) t ≤ g → T (allows allowed t m)
    unfolding allows
    near_allows t m l k h =
        subst (λ z. T (not (eqb z 0))) (sym (A t m l k ∙ ap bit (T_true (leb (cell d (get_or cs m 0) t) g) (le→leb (cell d (get_or cs m 0) t) g h)))) tt

    allows_near : (t m : ℕ) → t < n → m < count → T (allows allowed t m) → cell d (get_or cs m 0) t ≤ g
    unfolding allows
    allows_near t m l k h = leb→le (cell d (get_or cs m 0) t) g (set (leb (cell d (get_or cs m 0) t) g) (subst (λ z. T (not (eqb z 0))) (A t m l k) h))
      where
        set : (b : Bool) → T (not (eqb (bit b) 0)) → T b
        set true u = tt
        set false u = u

    -- so by the table of g, and back
    pub allowed_by : (xs : List ℕ) → Assignment P g xs → Assigned n count E allowed (λ t. labels xs t - 1)
    allowed_by = assigning_by (λ t m. T (allows allowed t m)) near_allows

    pub assigns : (D : ℕ → ℕ) → Assigned n count E allowed D → Assignment P g (numbered n D)
    assigns = assigns_by (λ t m. T (allows allowed t m)) allows_near
