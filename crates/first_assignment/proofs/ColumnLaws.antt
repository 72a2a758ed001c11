-- A column of a table is rewritten row after row, and which assignments the table then has. Assumes nothing.
use Prim.Native.Nat.{ℕ, ◌+◌, ◌*◌, ◌≤◌, ◌<◌}
use native.Mathlib.Omega.{arith}
use native.Mathlib.Decide.{ℕ_discrete}
use mathlib.Core.Path.{◌≡◌, refl, sym, ap, ◌∙◌, subst}
use mathlib.Core.Logic.{⊎_elim, ◌↔◌}
use mathlib.Core.Bool.{Bool, true, false, not}
use mathlib.Core.List.{List}
use lib.Dec.{T, eqb, ltb, eqb→eq, ltb→lt, lt→ltb}
use lib.ListN.{length, set, length-set}
use lib.Seq.{get_or-set_same, get_or-set_other}
use mir.Val.{bool_byte}
use Rattle.lists.proofs.Tests.{split, eq→eqb}
use Rattle.study.specs.Limits.{max_tides, table_size, cell}
use Rattle.promise.specs.Promise.{Test, allows, Assigned}
use Rattle.first_assignment.specs.Column.{Column, Narrowed}

pub column_none : (t : ℕ) (May : ℕ → Type 0) (old : List ℕ) → Column 0 t May old old
column_none t May old = record { same_length = refl; here = λ m l. absurd (omega arith); other = λ x m l e. (λ h. h, λ h. h) }

-- one after the other
both : {A B C : Type 0} → A ↔ B → B ↔ C → A ↔ C
both p q = (λ h. q.0 (p.0 h), λ h. p.1 (q.1 h))

-- an entry that allows a pair
abbrev Allowing : ℕ → Type 0
Allowing v = T (not (eqb v 0))

-- row i is written
column_more : {i t : ℕ} {May : ℕ → Type 0} {old new : List ℕ} (v : ℕ) → t < max_tides → i < max_tides → table_size ≤ length old
    → Column i t May old new → Allowing v ↔ May i → Column (i + 1) t May old (set new (i * max_tides + t) v)
unfolding allows
column_more {i} {t} {May} {old} {new} v tl il long C e =
    record {
      same_length = simp length-set C.same_length;
      here = λ m l.
          ⊎_elim
          (λ k. both (elsewhere t m tl (λ z. omega arith)) (C.here m k))
          (λ k. subst (λ z. T (allows (set new (i * max_tides + t) v) t z) ↔ May z) (omega arith) written)
          (split m i);
      other = λ x m l f.
          both (elsewhere x m l (λ z. let k = f z.0 in omega arith)) (C.other x m l (λ z. let k = f z in omega arith));
    }
  where
    written : T (allows (set new (i * max_tides + t) v) t i) ↔ May i
    written =
        let q = get_or-set_same new (i * max_tides + t) v 0 (omega (arith, C.same_length)) in
        (λ h. e.0 (subst Allowing q h), λ h. subst Allowing (sym q) (e.1 h))

    elsewhere : (x m : ℕ) → x < max_tides → ((x ≡ t) × (m ≡ i) → ⊥)
        → T (allows (set new (i * max_tides + t) v) x m) ↔ T (allows new x m)
    elsewhere x m k n =
        let q = get_or-set_other new (i * max_tides + t) (m * max_tides + x) v 0 (λ z. n (omega arith, omega arith)) in
        (λ h. subst Allowing q h, λ h. subst Allowing (sym q) h)

pub column_done : {i blocks t : ℕ} {May : ℕ → Type 0} {old new : List ℕ} → i ≡ blocks → Column i t May old new → Column blocks t May old new
column_done {t = t} {May = May} {old = old} {new = new} e C = subst (λ z. Column z t May old new) e C

-- rewritten twice, the second time whatever stood there
pub column_again : {i t : ℕ} {May Then : ℕ → Type 0} {a b c : List ℕ} → Column i t May a b → Column i t Then b c → Column i t Then a c
column_again C D =
    record {
      same_length = D.same_length ∙ C.same_length;
      here = D.here;
      other = λ x m l e. both (D.other x m l e) (C.other x m l e);
    }

-- ---- the two ways in which it is rewritten

kept_or_none : (b : Bool) (x : ℕ) → Allowing (x * bool_byte b) ↔ (Allowing x × T b)
kept_or_none true x =
    let same : x ≡ x * bool_byte true = omega arith in (λ h. (subst Allowing (sym same) h, tt), λ h. subst Allowing same h.0)
kept_or_none false x = let gone : 0 ≡ x * bool_byte false = omega arith in (λ h. absurd (subst Allowing (sym gone) h), λ h. absurd h.1)

-- it is no greater a number
pub kept_most : (b : Bool) {kept : ℕ} (x : ℕ) → kept ≡ bool_byte b → x * kept ≤ x
kept_most b x e = subst (λ z. x * z ≤ x) (sym e) (most b)
  where
    most : (b : Bool) → x * bool_byte b ≤ x
    most true = omega arith
    most false = omega arith

-- an entry stays where the block's rank is below a limit, and goes otherwise
pub restrict_more : {i t limit : ℕ} {rank : ℕ → ℕ} {old new : List ℕ} (kept : ℕ) → t < max_tides → i < max_tides → table_size ≤ length old
    → Narrowed i t (λ m. rank m < limit) old new → kept ≡ bool_byte (ltb (rank i) limit)
    → Narrowed (i + 1) t (λ m. rank m < limit) old (set new (i * max_tides + t) (cell new i t * kept))
unfolding allows
restrict_more {i} {t} {limit} {rank} {new = new} kept tl il long C e =
    let o = C.other t i tl (λ q. omega arith) in
    let same = ap (λ z. cell new i t * z) e in
    let k = kept_or_none (ltb (rank i) limit) (cell new i t) in
    column_more (cell new i t * kept) tl il long C (
      λ h. let q = k.0 (subst Allowing same h) in (o.0 q.0, ltb→lt (rank i) limit q.1),
      λ h. subst Allowing (sym same) (k.1 (o.1 h.0, lt→ltb (rank i) limit h.1)),
    )

allowing_byte : (b : Bool) → Allowing (bool_byte b) ↔ T b
allowing_byte true = (λ h. h, λ h. h)
allowing_byte false = (λ h. h, λ h. h)

-- no entry is left but v's
pub fix_more : {i t v : ℕ} {old new : List ℕ} (w : ℕ) → t < max_tides → i < max_tides → table_size ≤ length old
    → Column i t (λ m. m ≡ v) old new → w ≡ bool_byte (eqb i v) → Column (i + 1) t (λ m. m ≡ v) old (set new (i * max_tides + t) w)
fix_more {i} {v = v} w tl il long C e =
    let k = allowing_byte (eqb i v) in
    column_more w tl il long C (λ h. eqb→eq i v (k.0 (subst Allowing e h)), λ h. subst Allowing (sym e) (k.1 (eq→eqb i v h)))

-- ---- the assignments of such a table

module _ {n blocks : ℕ} {E : Test} {old new : List ℕ} {t : ℕ} {May : ℕ → Type 0} (small : n ≤ max_tides) (tl : t < n)
    (C : Column blocks t May old new) where
  pub column_may : (D : ℕ → ℕ) → Assigned n blocks E new D → May (D t)
  column_may D A = (C.here (D t) (A.below t tl)).0 (A.may t tl)

  -- those of the table before, where what t may do now it might do then
  pub column_sound : ((m : ℕ) → m < blocks → May m → T (allows old t m)) → (D : ℕ → ℕ) → Assigned n blocks E new D → Assigned n blocks E old D
  column_sound f D A = record { below = A.below; may = λ x l. row x l (ℕ_discrete x t); enough = A.enough }
    where
      row : (x : ℕ) → x < n → Dec (x ≡ t) → T (allows old x (D x))
      row x l (yes e) = subst (λ z. T (allows old z (D z))) (sym e) (f (D t) (A.below t tl) (column_may D A))
      row x l (no e) = (C.other x (D x) (omega arith) (λ q. absurd (e q))).0 (A.may x l)

  pub column_complete : (D : ℕ → ℕ) → Assigned n blocks E old D → May (D t) → Assigned n blocks E new D
  column_complete D A k = record { below = A.below; may = λ x l. row x l (ℕ_discrete x t); enough = A.enough }
    where
      row : (x : ℕ) → x < n → Dec (x ≡ t) → T (allows new x (D x))
      row x l (yes e) = subst (λ z. T (allows new z (D z))) (sym e) ((C.here (D t) (A.below t tl)).1 k)
      row x l (no e) = (C.other x (D x) (omega arith) (λ q. absurd (e q))).1 (A.may x l)
