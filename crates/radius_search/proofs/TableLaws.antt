-- The table of allowed pairs, a row of max_tides for each block: tide t may go to block m whose centre is at most g away. Assumes nothing.
use Prim.Native.Nat.{ℕ, ◌+◌, ◌*◌, ◌≤◌, ◌<◌}
use native.Mathlib.Omega.{arith}
use mathlib.Core.Path.{◌≡◌, refl, ◌∙◌, subst}
use mathlib.Core.Logic.{⊎_elim}
use mathlib.Core.List.{List}
use lib.Dec.{leb}
use lib.ListN.{length, get_or, set, length-set}
use lib.Seq.{get_or-set_same, get_or-set_other}
use Rattle.lists.specs.Lists.{bit}
use Rattle.lists.proofs.Tests.{split}
use Rattle.study.specs.Limits.{cell, max_tides}
use Rattle.radius_search.specs.Table.{entry, RowTo, Table}

pub row_none : (d : List ℕ) (c g m : ℕ) (old : List ℕ) → RowTo d c g m 0 old old
row_none d c g m old = record { same_length = refl; other = λ y t l e. refl; here = λ t l. absurd (omega arith) }

pub row_more : {d : List ℕ} {c g m i : ℕ} {old new : List ℕ} (v : ℕ) → RowTo d c g m i old new → i < 120 → (m + 1) * 120 ≤ length old
    → v ≡ bit (leb (cell d c i) g) → RowTo d c g m (i + 1) old (set new (m * 120 + i) v)
row_more {d} {c} {g} {m} {i} {old} {new} v R few long e =
    record {
      same_length = simp length-set R.same_length;
      other = λ y t l q. get_or-set_other new (m * 120 + i) (y * 120 + t) v 0 (λ z. q (omega arith)) ∙ R.other y t l q;
      here = λ t l. ⊎_elim
          (λ k. get_or-set_other new (m * 120 + i) (m * 120 + t) v 0 (λ z. omega arith) ∙ R.here t k)
          (λ k. let q : i ≡ t = omega arith in
          subst (λ z. cell (set new (m * 120 + i) v) m z ≡ bit (leb (cell d c z) g)) q
          (get_or-set_same new (m * 120 + i) v 0 (omega (arith, R.same_length)) ∙ e))
          (split t i);
    }

pub row_done : {d : List ℕ} {c g m i n : ℕ} {old new : List ℕ} → i ≡ n → RowTo d c g m i old new → RowTo d c g m n old new
row_done {d} {c} {g} {m} {old = old} {new = new} e R = subst (λ z. RowTo d c g m z old new) e R

pub table_none : (d cs : List ℕ) (g n : ℕ) (old : List ℕ) → Table d cs g 0 n old old
table_none d cs g n old = record { same_length = refl; here = λ t m l k. absurd (omega arith) }

pub table_more : {d cs : List ℕ} {g m n : ℕ} {old mid new : List ℕ} → n ≤ max_tides → Table d cs g m n old mid → RowTo d (get_or cs m 0) g m n mid new
    → Table d cs g (m + 1) n old new
table_more {d} {cs} {g} {m} {n} {old} {mid} {new} few A R =
    record {
      same_length = R.same_length ∙ A.same_length;
      here = λ t y l k. ⊎_elim
          (λ q. R.other y t (omega arith) (λ e. omega arith) ∙ A.here t y l q)
          (λ q. let e : m ≡ y = omega arith in subst (λ z. cell new z t ≡ entry d cs g t z) e (R.here t l))
          (split y m);
    }

pub table_done : {d cs : List ℕ} {g m count n : ℕ} {old new : List ℕ} → m ≡ count → Table d cs g m n old new → Table d cs g count n old new
table_done {d} {cs} {g} {n = n} {old = old} {new = new} e A = subst (λ z. Table d cs g z n old new) e A
