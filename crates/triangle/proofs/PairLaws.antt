-- The search for the first pair of tides that violates the triangle inequality with a new tide: at each turn, the violations that are
-- still to come begin with the answer. Assumes nothing.
use Rattle.std.proofs.Common.{◌≡◌, ℕ, suc, ◌+◌, ◌-◌, ◌*◌, ◌<◌, ◌≤◌, Bool, true, false, cond, not, T, List, [], ◌∷◌}
use Rattle.std.proofs.Common.{◌++◌, map, length, get_or, take, drop, sym, refl, ap, ◌∙◌, ap₂, add-one, arith}
use Rattle.std.proofs.Common.{length-drop, length-take, get_or-drop, get_or-take}
use mathlib.Core.List.Memᴰ.{head as here}
use mathlib.Core.List.Memᴰ.{tail as there}
use mathlib.Core.List.{flat_map}
use Rattle.lists.specs.Lists.{◌among◌, iota, filter, is_empty}
use Rattle.lists.proofs.Members.{range_mem}
use Rattle.study.specs.Limits.{cell}
use Rattle.study.specs.Refusals.{seven}
use Rattle.study.specs.Calls.{triangle, Pair, violations, first_violation}
use Rattle.std.specs.Prelude.{Option, Some, None, is_some}
use Rattle.triangle.specs.Pairs.{violation_of}

pub found_nothing : (ps : List Pair) → violation_of ps ≡ None → is_empty ps ≡ true
found_nothing [] e = refl
found_nothing (p ∷ ps) e = cc

pub found_tells : (ps : List Pair) (b : Bool) → is_some (violation_of ps) ≡ not b → b ≡ is_empty ps
found_tells [] true e = refl
found_tells [] false e = cc
found_tells (p ∷ ps) true e = cc
found_tells (p ∷ ps) false e = refl

pub nothing_found : (ps : List Pair) → T (is_empty ps) → None ≡ violation_of ps
nothing_found [] t = refl
nothing_found (p ∷ ps) t = absurd t

pub found_pair : (ps : List Pair) (i j : ℕ) → violation_of ps ≡ Some (i, j) → (is_empty ps ≡ false) × (first_violation ps ≡ seven i j)
found_pair [] i j e = cc
found_pair (p ∷ ps) i j e =
    let same : ◌≡◌ {A = ℕ × ℕ} (i, j) (suc p.lower, suc p.upper) = cc in
    (refl, ap (λ (q : ℕ × ℕ). seven q.0 q.1) (sym same))

-- ---- turn by turn, of a row against the distances in memory

module _ (d row : List ℕ) where
  abbrev n : ℕ
  n = length row

  abbrev violates? : ℕ → ℕ → Bool
  violates? i j = not (triangle (cell d i j) (get_or row i 0) (get_or row j 0))

  -- each of these tides with tide i
  abbrev pairs : ℕ → List ℕ → List Pair
  pairs i js = map (λ j. record { lower = i; upper = j }) js

  abbrev with : ℕ → List ℕ → List Pair
  with i js = pairs i (filter (violates? i) js)

  abbrev after : ℕ → ℕ → List Pair
  after i k = flat_map (λ i. with i (iota (suc i) (n - suc i))) (iota i k)

  -- the violations whose lower tide is i or later
  unfoldable pub pairs_from : ℕ → List Pair
  pairs_from i = after i (n - i)

  -- those of i with j or a later tide, and then those after i
  unfoldable pub pairs_at : ℕ → ℕ → List Pair
  pairs_at i j = with i (iota j (n - j)) ++ pairs_from (suc i)

  pub violation_starts : violations (cell d) n (λ i. get_or row i 0) ≡ pairs_from 0
  unfolding violations pairs_from
  violation_starts = let e : n ≡ n - 0 = omega arith in ap (after 0) e

  pub violation_enters : (i : ℕ) → i < n → pairs_from i ≡ pairs_at i (i + 1)
  unfolding pairs_from pairs_at flat_map
  violation_enters i l = let e : n - i ≡ suc (n - suc i) = omega arith in rw (add-one i) (ap (after i) e)

  -- tide j comes first among those that are left
  at_j : (i j : ℕ) → j < n → (b : Bool) → violates? i j ≡ b
      → pairs_at i j ≡ pairs i (let r = filter (violates? i) (iota (suc j) (n - suc j)) in cond b (j ∷ r) r) ++ pairs_from (suc i)
  unfolding pairs_at
  at_j i j l b q =
      let e : n - j ≡ suc (n - suc j) = omega arith in
      ap (λ (k : ℕ). with i (iota j k) ++ pairs_from (suc i)) e
      ∙ ap (λ b. pairs i (let r = filter (violates? i) (iota (suc j) (n - suc j)) in cond b (j ∷ r) r) ++ pairs_from (suc i)) q

  pub violation_passes : (i j : ℕ) → j < n → violates? i j ≡ false → pairs_at i j ≡ pairs_at i (j + 1)
  unfolding pairs_at
  violation_passes i j l q = rw (add-one j) (at_j i j l false q)

  pub violation_finds : (i j : ℕ) → j < n → violates? i j ≡ true → Some (i + 1, j + 1) ≡ violation_of (pairs_at i j)
  violation_finds i j l q = rw (add-one i, add-one j) (sym (ap violation_of (at_j i j l true q)))

  pub violation_leaves : (i j : ℕ) → n ≤ j → pairs_at i j ≡ pairs_from (i + 1)
  unfolding pairs_at
  violation_leaves i j l =
      let e : n - j ≡ 0 = omega arith in
      rw (add-one i) (ap (λ (k : ℕ). with i (iota j k) ++ pairs_from (suc i)) e)

  pub violation_ends : (i : ℕ) → n ≤ i → None ≡ violation_of (pairs_from i)
  unfolding pairs_from flat_map
  violation_ends i l = let e : n - i ≡ 0 = omega arith in sym (ap (λ (k : ℕ). violation_of (after i k)) e)

-- ---- the same distances have the same violations

filter_same : {A : Type 0} (p q : A → Bool) (xs : List A) → ((x : A) → x among xs → p x ≡ q x) → filter p xs ≡ filter q xs
filter_same p q [] f = refl
filter_same p q (x ∷ xs) f =
    ap₂ (λ b l. cond b (x ∷ l) l) (f x (here refl)) (filter_same p q xs (λ y m. f y (there m)))

flat_map_same : {A B : Type 0} (f g : A → List B) (xs : List A) → ((x : A) → x among xs → f x ≡ g x) → flat_map f xs ≡ flat_map g xs
unfolding flat_map
flat_map_same f g [] h = refl
flat_map_same f g (x ∷ xs) h = ap₂ (λ u v. u ++ v) (h x (here refl)) (flat_map_same f g xs (λ y m. h y (there m)))

pub violations_same : (dist dist' : ℕ → ℕ → ℕ) (n : ℕ) (new new' : ℕ → ℕ) → ((i j : ℕ) → i < n → j < n → dist i j ≡ dist' i j)
    → ((i : ℕ) → i < n → new i ≡ new' i) → violations dist n new ≡ violations dist' n new'
unfolding violations
violations_same dist dist' n new new' e f =
    flat_map_same _ _ (iota 0 n) (λ i m.
    let a = range_mem 0 n m in
    let l : i < n = omega arith in
    ap (map (λ j. record { lower = i; upper = j }))
    (filter_same _ _ (iota (suc i) (n - suc i)) (λ j k.
    let b = range_mem (suc i) (n - suc i) k in
    let q : j < n = omega arith in
    rw (e i j l q, f i l, f j q))))

-- ---- tide t's own row in memory, as a part of it

abbrev pub row_in : List ℕ → ℕ → List ℕ
row_in d t = take (t * 120 + t - t * 120) (drop (t * 120) d)

module _ (d : List ℕ) (t : ℕ) (fits : 14400 ≤ length d) (held : t < 120) where
  part_length : length (row_in d t) ≡ t
  part_length = simp (length-take, length-drop) (omega arith)

  part_at : (i : ℕ) → i < t → get_or (row_in d t) i 0 ≡ cell d t i
  part_at i l =
      let k : i < t * 120 + t - t * 120 = omega arith in
      get_or-take (t * 120 + t - t * 120) (drop (t * 120) d) i 0 k ∙ get_or-drop (t * 120) d i 0

  pub part_violations : violations (cell d) (length (row_in d t)) (λ i. get_or (row_in d t) i 0) ≡ violations (cell d) t (cell d t)
  part_violations =
      ap (λ (k : ℕ). violations (cell d) k (λ i. get_or (row_in d t) i 0)) part_length
      ∙ violations_same (cell d) (cell d) t (λ i. get_or (row_in d t) i 0) (cell d t) (λ i j a b. refl) part_at

  -- what the search finds for that part, it finds for tide t
  pub part_found : {r : Option (ℕ × ℕ)} → r ≡ violation_of (violations (cell d) (length (row_in d t)) (λ i. get_or (row_in d t) i 0))
      → r ≡ violation_of (violations (cell d) t (cell d t))
  part_found e = e ∙ ap violation_of part_violations
