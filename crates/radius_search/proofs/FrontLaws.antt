-- The front of a table holds a list; the centres among the first tides as such a list. Assumes nothing.
use Prim.Native.Nat.{ℕ, zero, suc, ◌+◌, ◌≤◌, ◌<◌}
use native.Mathlib.Omega.{arith}
use native.Mathlib.Numerals.{add-one}
use mathlib.Core.Path.{◌≡◌, refl, sym, ap, ◌∙◌, subst}
use mathlib.Core.Bool.{Bool, true, false, not, cond}
use mathlib.Core.List.{List, [], ◌∷◌, ◌++◌}
use lib.Arith.{le→nltb}
use lib.Dec.{T, ltb, lt→ltb, not_T, T_not}
use lib.ListN.{length, get_or, take, set, length-append, length-set}
use lib.Seq.{take-suc, take-suc-set, get_or-take, length-take-le}
use Rattle.lists.specs.Lists.{all_of, at}
use Rattle.lists.proofs.Tests.{and_T, T_true, true-T, T_false}
use Rattle.lists.proofs.Members.{all_at, all_append, getD_mem}
use Rattle.study.specs.Limits.{max_tides, cell}
use Rattle.study.specs.Problem.{centres_among}
use Rattle.study.proofs.ProblemLaws.{among_below}
use Rattle.radius_theory.specs.Arrays.{within, SizedArrays}
use Rattle.radius_theory.proofs.ArrayLaws.{within_is}
use Rattle.radius_theory.specs.Arrays.{DistanceRows, TidesIn}
use Rattle.radius_search.specs.Front.{Front, CentresAt, FarFrom}

pub front_at : {table : List ℕ} {count : ℕ} {l : List ℕ} → Front table count l → (m : ℕ) → m < count → get_or table m 0 ≡ get_or l m 0
front_at {table} {count} F m h = sym (get_or-take count table m 0 h) ∙ ap (λ x. get_or x m 0) F.front

pub front_more : {table : List ℕ} {count : ℕ} {l : List ℕ} (t : ℕ) → count < max_tides → Front table count l
    → Front (set table count t) (count + 1) (l ++ (t ∷ []))
front_more {table} {count} {l} t h F =
    record {
      size = simp length-set F.size;
      long = length-append l (t ∷ []) ∙ omega (arith, F.long);
      front = rw (add-one count) (take-suc-set table count t (omega (arith, F.size)) ∙ ap (λ x. x ++ (t ∷ [])) F.front);
    }

-- ---- a scan of the front with a test

module _ (p : ℕ → Bool) (table : List ℕ) where
  all_more : (m : ℕ) → m < length table → T (all_of p (take m table)) → T (p (get_or table m 0)) → T (all_of p (take (m + 1) table))
  all_more m h a b =
      rw (add-one m, take-suc table m 0 h) (all_append p (take m table) (get_or table m 0 ∷ []) a (and_T (p (get_or table m 0)) true b tt))

  all_fails : (m count : ℕ) → m < count → count ≤ length table → T (not (p (get_or table m 0))) → all_of p (take count table) ≡ false
  all_fails m count h l t =
      T_false (all_of p (take count table)) (not_T (all_of p (take count table)) (λ a.
      T_not (p (get_or table m 0)) t
      (subst (λ x. T (p x)) (get_or-take count table m 0 h)
      (all_at p (take count table) a (getD_mem 0 (take count table) m (omega (arith, length-take-le count table l)))))))

-- ---- a tide that is farther than g from the first tides of a table

pub far_none : (d : List ℕ) (n g t : ℕ) (table : List ℕ) → FarFrom d n g t 0 table true
far_none d n g t table = record { is = refl }

pub far_done : {d : List ℕ} {n g t m count : ℕ} {table : List ℕ} → m ≡ count → FarFrom d n g t m table true → FarFrom d n g t count table true
far_done {d} {n} {g} {t} {table = table} q A = subst (λ z. FarFrom d n g t z table true) q A

module _ {d : List ℕ} {n g t m : ℕ} {table : List ℕ} (inside : at table m < n) (tide : t < n) where
  -- from one more
  pub far_more : m < length table → FarFrom d n g t m table true → g < cell d (at table m) t → FarFrom d n g t (m + 1) table true
  far_more h A l =
      let w = within_is d n (at table m) t inside tide in
      let far = lt→ltb g (within d n (at table m) t) (omega arith) in
      let p : ℕ → Bool = λ c. ltb g (within d n c t) in
      record { is = sym (T_true (all_of p (take (m + 1) table)) (all_more p table m h (true-T (all_of p (take m table)) (sym A.is)) far)) }

  -- tide m of the table is near
  pub far_fails : {count : ℕ} → m < count → count ≤ length table → cell d (at table m) t ≤ g → FarFrom d n g t count table false
  far_fails {count} h k l =
      let w = within_is d n (at table m) t inside tide in
      let near = le→nltb g (within d n (at table m) t) (omega arith) in
      record { is = sym (all_fails (λ c. ltb g (within d n c t)) table m count h k near) }

-- ---- the centres among the first t tides

module _ (dist : ℕ → ℕ → ℕ) (g : ℕ) where
  grown : (b : Bool) (cs : List ℕ) (t : ℕ) → length (cond b (cs ++ (t ∷ [])) cs) ≤ length cs + 1
  grown true cs t = omega (arith, length-append cs (t ∷ []))
  grown false cs t = omega arith

  pub centres_few : (t : ℕ) → length (centres_among dist g t) ≤ t
  unfolding centres_among
  centres_few zero = omega arith
  centres_few (suc t) = omega (arith, centres_few t, grown (all_of (λ c. ltb g (dist c t)) (centres_among dist g t)) (centres_among dist g t) t)

  -- each is a tide before t
  pub centres_below : (t : ℕ) {table : List ℕ} {count : ℕ} → Front table count (centres_among dist g t) → (m : ℕ) → m < count → get_or table m 0 < t
  centres_below t F m h =
      rw (front_at F m h)
      (among_below (record { size = 0; dist = dist; enough = λ p. true }) g t (getD_mem 0 (centres_among dist g t) m (omega (arith, F.long))))

  centres_start : (table : List ℕ) → length table ≡ max_tides → Front table 0 (centres_among dist g 0)
  unfolding centres_among
  centres_start table e = record { size = e; long = refl; front = refl }

  module _ {table : List ℕ} {count : ℕ} (t : ℕ) (F : Front table count (centres_among dist g t)) where
    -- tide t is one more
    centres_hit : true ≡ all_of (λ c. ltb g (dist c t)) (take count table) → t < max_tides
        → Front (set table count t) (count + 1) (centres_among dist g (t + 1))
    unfolding centres_among
    centres_hit e l =
        rw (add-one t, ← F.front, ← e) (rw F.front (front_more t (omega (arith, F.long, centres_few t)) F))

    -- or it is none
    centres_miss : false ≡ all_of (λ c. ltb g (dist c t)) (take count table) → Front table count (centres_among dist g (t + 1))
    unfolding centres_among
    centres_miss e = rw (add-one t, ← F.front, ← e) (rw F.front F)

-- the front of the table holds the centres among the first t of n tides
pub record CentresTo (d : List ℕ) (n g t count : ℕ) (cs : List ℕ) : Type 0 where
  pub front : Front cs count (centres_among (within d n) g t)

pub to_start : (d : List ℕ) (n g : ℕ) {cs : List ℕ} → length cs ≡ max_tides → CentresTo d n g 0 0 cs
to_start d n g {cs} e = record { front = centres_start (within d n) g cs e }

module _ {d : List ℕ} {n g t count : ℕ} {cs : List ℕ} (C : CentresTo d n g t count cs) where
  pub to_fits : count ≤ t
  to_fits = omega (arith, C.front.long, centres_few (within d n) g t)

  -- where these are tides, the table holds tides
  pub to_tides : t ≤ n → n ≤ max_tides → TidesIn cs count n
  to_tides l k =
      record { few = omega (arith, to_fits); below = λ m h. omega (arith, centres_below (within d n) g t C.front m h) }

  -- tide t is one more
  pub to_hit : {r : Bool} → FarFrom d n g t count cs r → r ≡ true → t < max_tides → CentresTo d n g (t + 1) (count + 1) (set cs count t)
  to_hit A e l = record { front = centres_hit (within d n) g t C.front (sym e ∙ A.is) l }

  -- or it is none
  pub to_miss : {r : Bool} → FarFrom d n g t count cs r → r ≡ false → CentresTo d n g (t + 1) count cs
  to_miss A e = record { front = centres_miss (within d n) g t C.front (sym e ∙ A.is) }

  pub to_done : t ≡ n → CentresAt d n g count cs
  to_done e = record { front = subst (λ z. Front cs count (centres_among (within d n) g z)) e C.front }

-- ---- the centres at g, by the lists of numbers

pub front_fits : {d : List ℕ} {n g count : ℕ} {cs : List ℕ} → CentresAt d n g count cs → count ≤ n
front_fits {d} {n} {g} C = omega (arith, C.front.long, centres_few (within d n) g n)

pub front_few : {d : List ℕ} {n g count : ℕ} {cs : List ℕ} → n ≤ max_tides → CentresAt d n g count cs → count ≤ max_tides
front_few l C = omega (arith, front_fits C)

pub front_below : {d : List ℕ} {n g count : ℕ} {cs : List ℕ} → CentresAt d n g count cs → (m : ℕ) → m < count → get_or cs m 0 < n
front_below {d} {n} {g} C = centres_below (within d n) g n C.front

-- the table of the centres holds tides
pub centres_in : {d : List ℕ} {n g count : ℕ} {cs : List ℕ} → n ≤ max_tides → CentresAt d n g count cs → TidesIn cs count n
centres_in l C = record { few = front_few l C; below = front_below C }

-- the rows of distances of sized arrays
pub rows_of : {A : Type 0} {d : List ℕ} {n : ℕ} → SizedArrays A d n → DistanceRows d n
rows_of z = record { few = z.few; distances_long = z.distances_long }
