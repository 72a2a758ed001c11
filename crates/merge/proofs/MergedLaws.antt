-- Laws of the merged study: its tides, its distances, the triangle inequality, and that no table which keeps both old ones is greater.
-- Assumes nothing.
use Prim.Native.Nat.{ℕ, ◌+◌, ◌-◌, ◌≤◌, ◌<◌}
use native.Mathlib.Omega.{arith}
use mathlib.Core.Path.{◌≡◌, sym, ap, ap₂, ◌∙◌, subst}
use mathlib.Core.Logic.{⊎_elim}
use mathlib.Core.Bool.{cond}
use mathlib.Core.List.{List, ◌++◌}
use lib.Dec.{ltb, lt→ltb}
use lib.ListN.{length, get_or, length-append, get_or-append}
use lib.Seq.{get_or-append-add}
use Rattle.lists.specs.Lists.{tabulate, at}
use Rattle.lists.proofs.Tests.{split, cond_yes}
use Rattle.lists.proofs.Tables.{length_tabulate, get_d_tabulate}
use Rattle.study.specs.Study.{Tide, Study, size, no_tide, tide, distance, TriangleInequality as Obeys}
use Rattle.study.specs.Triangle.{Triangle}
use Rattle.study.proofs.StudyLaws.{distance_both_ways, distance_itself}
use Rattle.study.proofs.TriangleLaws.{ordered_triangle, triangle_of}
use Rattle.metric_closure.specs.Theorems.{Below, TriangleInequality}
use Rattle.merge.specs.Merge.{Shared, rest, way, across, added, merged_study, place}
use Rattle.merge.specs.Theorems.{Agree, Keeps}
use Rattle.merge.proofs.AcrossLaws.{through, two_first, two_second, across_first, across_second}
use Rattle.merge.proofs.PlaceLaws.{rest_inside, by_share, place_shared, place_rest}

-- ---- its tides

module _ (A B : Study) (P : Shared) where
  abbrev M : Study
  M = merged_study A B P

  abbrev js : List ℕ
  js = rest B P

  abbrev more : List Tide
  more = tabulate (length (rest B P)) (added A B P)

  -- the first study's tides, and then the remaining ones
  pub merged_size : size M ≡ size A + length js
  unfolding merged_study
  merged_size = length-append A.tides more ∙ ap (λ z. size A + z) (length_tabulate (length js) (added A B P))

  pub old_tide : (t : ℕ) → t < size A → tide M t ≡ tide A t
  unfolding merged_study tide
  old_tide t l = get_or-append A.tides more no_tide t l

  pub new_tide : (r : ℕ) → r < length js → tide M (size A + r) ≡ added A B P r
  unfolding merged_study tide
  new_tide r l = get_or-append-add A.tides more r no_tide ∙ get_d_tabulate (length js) (added A B P) r no_tide l

  -- a tide is one of the first study's, or the remaining tide r of the second's
  pub by_origin : (K : ℕ → Type 0) → ((t : ℕ) → t < size A → K t) → ((r : ℕ) → r < length js → K (size A + r)) → (t : ℕ) → t < size M → K t
  by_origin K old new t l =
      ⊎_elim (λ s. old t s)
      (λ s. let e : size A + (t - size A) ≡ t = omega arith in subst K e (new (t - size A) (omega (arith, merged_size)))) (split t (size A))

  -- ---- its settings

  pub old_setting : (t : ℕ) → t < size A → (tide M t).setting ≡ (tide A t).setting
  old_setting t l = ap (λ (x : Tide). x.setting) (old_tide t l)

  pub new_setting : (r : ℕ) → r < length js → (tide M (size A + r)).setting ≡ (tide B (at js r)).setting
  unfolding added
  new_setting r l = ap (λ (x : Tide). x.setting) (new_tide r l)

  -- ---- its distances

  -- of two of the first study's tides
  pub old_distance : (t u : ℕ) → t < size A → u < size A → distance M t u ≡ distance A t u
  unfolding distance
  old_distance t u a b =
      ap₂ (λ (x y : Tide). cond (ltb t u) (get_or x.row t 0) (cond (ltb u t) (get_or y.row u 0) 0)) (old_tide u b) (old_tide t a)

  -- to a remaining tide, as its row says
  row_distance : (t r : ℕ) → t < size A + r → r < length js → distance M t (size A + r) ≡ get_or (added A B P r).row t 0
  unfolding distance
  row_distance t r a b =
      cond_yes (ltb t (size A + r)) _ _ (lt→ltb t (size A + r) a) ∙ ap (λ (x : Tide). get_or x.row t 0) (new_tide r b)

  -- the row's two parts: to the first study's tides, and to the remaining ones before it
  abbrev front : ℕ → List ℕ
  front r = tabulate (size A) (λ i. across A B P i (at (rest B P) r))

  abbrev back : ℕ → List ℕ
  back r = tabulate r (λ q. distance B (at (rest B P) q) (at (rest B P) r))

  front_long : (r : ℕ) → length (front r) ≡ size A
  front_long r = length_tabulate (size A) (λ i. across A B P i (at js r))

  pub row_long : (r : ℕ) → length (added A B P r).row ≡ size A + r
  unfolding added
  row_long r =
      length-append (front r) (back r) ∙ ap₂ (λ x y. x + y) (front_long r) (length_tabulate r (λ q. distance B (at js q) (at js r)))

  -- from one study to the other
  pub cross_distance : (i r : ℕ) → i < size A → r < length js → distance M i (size A + r) ≡ across A B P i (at js r)
  unfolding added
  cross_distance i r a b =
      row_distance i r (omega arith) b
      ∙ get_or-append (front r) (back r) 0 i (rw (front_long r) a)
      ∙ get_d_tabulate (size A) (λ i. across A B P i (at js r)) i 0 a

  pub cross_back : (r i : ℕ) → r < length js → i < size A → distance M (size A + r) i ≡ across A B P i (at js r)
  cross_back r i b a = distance_both_ways M (size A + r) i ∙ cross_distance i r a b

  -- of two remaining tides
  earlier_distance : (q r : ℕ) → q < r → r < length js → distance M (size A + q) (size A + r) ≡ distance B (at js q) (at js r)
  unfolding added
  earlier_distance q r a b =
      let e : length (front r) + q ≡ size A + q = rw (front_long r) in
      row_distance (size A + q) r (omega arith) b
      ∙ ap (λ (k : ℕ). get_or (front r ++ back r) k 0) (sym e)
      ∙ get_or-append-add (front r) (back r) q 0
      ∙ get_d_tabulate r (λ q. distance B (at js q) (at js r)) q 0 a

  pub new_distance : (q r : ℕ) → q < length js → r < length js → distance M (size A + q) (size A + r) ≡ distance B (at js q) (at js r)
  new_distance q r a b =
      ⊎_elim (λ s. earlier_distance q r s b)
      (λ s. ⊎_elim (λ k. distance_both_ways M (size A + q) (size A + r) ∙ earlier_distance r q k a ∙ distance_both_ways B (at js r) (at js q))
      (λ k. let e : q ≡ r = omega arith in
      subst (λ z. distance M (size A + q) (size A + z) ≡ distance B (at js q) (at js z)) e
      (distance_itself M (size A + q) ∙ sym (distance_itself B (at js q))))
      (split r q))
      (split q r)

-- ---- two studies that obey the triangle inequality and agree

module _ (A B : Study) (P : Shared) (G : Agree A B P) (ruleA : Obeys A) (ruleB : Obeys B) where
  abbrev N : Study
  N = merged_study A B P

  abbrev ks : List ℕ
  ks = rest B P

  abbrev cross : (i r : ℕ) → i < size A → r < length (rest B P) → distance (merged_study A B P) i (size A + r) ≡ across A B P i (at (rest B P) r)
  cross = cross_distance A B P

  -- ---- the triangle inequality, by how many of three ordered tides are the second study's

  abbrev Obeyed : ℕ → ℕ → ℕ → Type 0
  Obeyed t u v = Triangle (distance N t u) (distance N t v) (distance N u v)

  none_second : (t u v : ℕ) → t < size A → u < size A → v < size A → Obeyed t u v
  none_second t u v a b c =
      rw (old_distance A B P t u a b, old_distance A B P t v a c, old_distance A B P u v b c)
      (triangle_of (distance A) (distance_both_ways A) (size A) ruleA t u v a b c)

  one_second : (t u r : ℕ) → t < size A → u < size A → r < length ks → Obeyed t u (size A + r)
  one_second t u r a b c =
      rw (old_distance A B P t u a b, cross t r a c, cross u r b c) (two_first A B P G ruleA ruleB t u (at ks r) a b (rest_inside B P r c))

  two_of_second : (t q r : ℕ) → t < size A → q < length ks → r < length ks → Obeyed t (size A + q) (size A + r)
  two_of_second t q r a b c =
      rw (cross t q a b, cross t r a c, new_distance A B P q r b c)
      (two_second A B P G ruleA ruleB t (at ks q) (at ks r) a (rest_inside B P q b) (rest_inside B P r c))

  all_second : (s q r : ℕ) → s < length ks → q < length ks → r < length ks → Obeyed (size A + s) (size A + q) (size A + r)
  all_second s q r a b c =
      rw (new_distance A B P s q a b, new_distance A B P s r a c, new_distance A B P q r b c)
      (triangle_of (distance B) (distance_both_ways B) (size B) ruleB (at ks s) (at ks q) (at ks r)
      (rest_inside B P s a) (rest_inside B P q b) (rest_inside B P r c))

  ordered : (t u v : ℕ) → t < u → u < v → v < size N → Obeyed t u v
  ordered t u v h k c =
      let low : t < size N = omega arith in
      let middle : u < size N = omega arith in
      by_origin A B P (λ v. u < v → Obeyed t u v)
      (λ v c k. none_second t u v (omega arith) (omega arith) c)
      (λ r c _. by_origin A B P (λ u. t < u → Obeyed t u (size A + r))
      (λ u b h. one_second t u r (omega arith) b c)
      (λ q b _. by_origin A B P (λ t. Obeyed t (size A + q) (size A + r)) (λ t a. two_of_second t q r a b c) (λ s a. all_second s q r a b c) t low)
      u middle h)
      v c k

  -- so it holds of any three
  pub merged_triangle : Obeys N
  merged_triangle = ordered_triangle (distance N) (distance_both_ways N) (distance_itself N) (size N) ordered

  -- ---- the second study's tides at their places

  -- also where j is shared
  pub across_is : (i j : ℕ) → i < size A → j < size B → distance N i (place A P j) ≡ across A B P i j
  across_is i j a b =
      by_share B P (λ j. distance N i (place A P j) ≡ across A B P i j)
      (λ q m. ap (distance N i) (place_shared A B P G q m) ∙ old_distance A B P i (P.first q) a (G.first_inside q m)
      ∙ sym (across_first A B P G ruleA ruleB i q a m))
      (λ r l. ap (distance N i) (place_rest A B P G r l) ∙ cross i r a l)
      j b

  -- from a shared tide, and from a remaining one
  second_shared : (q j : ℕ) → q < P.pairs → j < size B → distance N (place A P (P.second q)) (place A P j) ≡ distance B (P.second q) j
  second_shared q j m b =
      ap (λ x. distance N x (place A P j)) (place_shared A B P G q m) ∙ across_is (P.first q) j (G.first_inside q m) b
      ∙ across_second A B P G ruleA ruleB q j m b

  second_rest : (q j : ℕ) → q < length ks → j < size B → distance N (place A P (at ks q)) (place A P j) ≡ distance B (at ks q) j
  second_rest q j a b =
      by_share B P (λ j. distance N (place A P (at ks q)) (place A P j) ≡ distance B (at ks q) j)
      (λ p m. distance_both_ways N (place A P (at ks q)) (place A P (P.second p)) ∙ second_shared p (at ks q) m (rest_inside B P q a)
      ∙ distance_both_ways B (P.second p) (at ks q))
      (λ r l. ap₂ (distance N) (place_rest A B P G q a) (place_rest A B P G r l) ∙ new_distance A B P q r a l)
      j b

  -- both old tables are kept
  pub merged_keeps : Keeps A B P (distance N)
  merged_keeps =
      record {
        first = old_distance A B P;
        second = λ i j a b.
            by_share B P (λ i. distance N (place A P i) (place A P j) ≡ distance B i j) (λ q m. second_shared q j m b) (λ q l. second_rest q j l b) i a;
      }

  -- ---- no table that obeys the triangle inequality and keeps both old ones is above it

  module _ (f : ℕ → ℕ → ℕ) (rule : TriangleInequality (size N) f) (K : Keeps A B P f) where
    in_old : (t : ℕ) → t < size A → t < size N
    in_old t l = omega (arith, merged_size A B P)

    in_rest : (r : ℕ) → r < length ks → size A + r < size N
    in_rest r l = omega (arith, merged_size A B P)

    -- between a shared tide and a remaining one it is the second study's distance, both ways
    to_rest : (q r : ℕ) → q < P.pairs → r < length ks → f (P.first q) (size A + r) ≡ distance B (P.second q) (at ks r)
    to_rest q r m l =
        ap₂ f (sym (place_shared A B P G q m)) (sym (place_rest A B P G r l))
        ∙ K.second (P.second q) (at ks r) (G.second_inside q m) (rest_inside B P r l)

    from_rest : (q r : ℕ) → q < P.pairs → r < length ks → f (size A + r) (P.first q) ≡ distance B (at ks r) (P.second q)
    from_rest q r m l =
        ap₂ f (sym (place_rest A B P G r l)) (sym (place_shared A B P G q m))
        ∙ K.second (at ks r) (P.second q) (rest_inside B P r l) (G.second_inside q m)

    -- and between two remaining ones
    of_rest : (q r : ℕ) → q < length ks → r < length ks → f (size A + q) (size A + r) ≡ distance B (at ks q) (at ks r)
    of_rest q r a b =
        ap₂ f (sym (place_rest A B P G q a)) (sym (place_rest A B P G r b))
        ∙ K.second (at ks q) (at ks r) (rest_inside B P q a) (rest_inside B P r b)

    -- it goes through the shared tide of the least sum
    cross_below : (i r : ℕ) → i < size A → r < length ks → f i (size A + r) ≤ distance N i (size A + r)
    unfolding way
    cross_below i r a b =
        let w = through A B P G.named i (at ks r) in
        let q = w.pair in
        let l = G.first_inside q w.inside in
        omega (
          arith,
          cross i r a b,
          w.sum,
          rule.triangle i (P.first q) (size A + r) (in_old i a) (in_old (P.first q) l) (in_rest r b),
          K.first i (P.first q) a l,
          to_rest q r w.inside b,
        )

    back_below : (r i : ℕ) → r < length ks → i < size A → f (size A + r) i ≤ distance N (size A + r) i
    unfolding way
    back_below r i b a =
        let w = through A B P G.named i (at ks r) in
        let q = w.pair in
        let l = G.first_inside q w.inside in
        omega (
          arith,
          cross_back A B P r i b a,
          w.sum,
          rule.triangle (size A + r) (P.first q) i (in_rest r b) (in_old (P.first q) l) (in_old i a),
          K.first (P.first q) i l a,
          distance_both_ways A (P.first q) i,
          from_rest q r w.inside b,
          distance_both_ways B (at ks r) (P.second q),
        )

    -- by where both tides come from
    pub merged_greatest : Below (size N) f (distance N)
    merged_greatest = record { below = below }
      where
        below : (t u : ℕ) → t < size N → u < size N → f t u ≤ distance N t u
        below t u a b =
            by_origin A B P (λ t. f t u ≤ distance N t u)
            (λ t a. by_origin A B P (λ u. f t u ≤ distance N t u)
            (λ u b. omega (arith, K.first t u a b, old_distance A B P t u a b)) (λ r b. cross_below t r a b) u b)
            (λ q a. by_origin A B P (λ u. f (size A + q) u ≤ distance N (size A + q) u)
            (λ u b. back_below q u a b) (λ r b. omega (arith, of_rest q r a b, new_distance A B P q r a b)) u b)
            t a
