-- An assignment takes as many tides as all blocks need, and is one by what it gives the tides. Assumes nothing.
use Prim.Native.Nat.{ℕ, ◌*◌, ◌≤◌, ◌<◌}
use native.Mathlib.Omega.{arith}
use mathlib.Core.Path.{◌≡◌, sym, ◌∙◌, subst}
use mathlib.Core.Bool.{true}
use lib.Dec.{eqb, eqb→eq}
use Rattle.lists.specs.Lists.{count_below}
use Rattle.lists.proofs.Tests.{eq→eqb}
use Rattle.lists.proofs.Counts.{sum_le, count_all}
use Rattle.study.specs.Problem.{block}
use Rattle.promise.specs.Promise.{Test, Assigning, Upward, AtLeast}
use Rattle.lists.proofs.Counting.{sum_const, count_classes}

pub enough_tides : (n blocks b : ℕ) (E : Test) (May : ℕ → ℕ → Type 0) (D : ℕ → ℕ) → AtLeast n b E → Assigning n blocks E May D → blocks * b ≤ n
unfolding block
enough_tides n blocks b E May D least asg =
    omega (
      arith,
      sum_const blocks b,
      sum_le blocks (λ m. b) (λ m. count_below n (λ t. eqb (D t) m)) (λ m l. least.many (block D m) (asg.enough m l)),
      count_classes blocks n (λ t. true) D asg.below,
      count_all n,
    )

pub assigning_same : {n blocks : ℕ} {E : Test} {May : ℕ → ℕ → Type 0} → Upward n E → (D G : ℕ → ℕ) → ((t : ℕ) → t < n → D t ≡ G t) → Assigning n blocks E May D
    → Assigning n blocks E May G
unfolding block
assigning_same {n} {blocks} {E} {May} U D G e A =
    record {
      below = λ t l. subst (λ z. z < blocks) (e t l) (A.below t l);
      may = λ t l. subst (May t) (e t l) (A.may t l);
      enough = λ m l. U.more (block D m) (block G m) (λ t k u. eq→eqb (G t) m (sym (e t k) ∙ eqb→eq (D t) m u)) (A.enough m l);
    }
