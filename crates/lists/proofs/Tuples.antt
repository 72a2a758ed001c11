-- One element of each list: what a tuple is, and which one comes first in dictionary order. Assumes nothing.
use Prim.Native.Nat.{ℕ, zero, suc, ◌<◌, suc-le-suc}
use native.Mathlib.Nat.{not-suc-le-zero, le_of_suc-le-suc}
use native.Mathlib.Omega.{arith}
use mathlib.Core.Path.{◌≡◌, refl, sym, ap, ◌∙◌, subst}
use mathlib.Core.Logic.{◌⊎◌, inl, inr, ⊎_elim}
use mathlib.Core.Bool.{Bool, true, false, cond, not}
use mathlib.Core.List.Memᴰ
use mathlib.Core.List.{List, [], ◌∷◌, ◌++◌, map, flat_map, head_d}
use mathlib.Core.List.Memᴰ.{head as here}
use mathlib.Core.List.Memᴰ.{tail as there}
use lib.Dec.{T, eqb, eqb→eq, T_not}
use lib.ListN.{length, get_or, take}
use Rattle.lists.specs.Lists.{◌among◌, iota, filter, is_empty, before, tuples}
use Rattle.lists.proofs.Tests.{test, cond_yes, cond_no, eq→eqb}
use Rattle.lists.proofs.Members.{no_member, filter_mem, mem_filter, mem_map, map_mem, mem_flat_map, flat_map_mem, nonempty, range_mem}

-- ---- what a tuple is

pub record Tuple (css : List (List ℕ)) (xs : List ℕ) : Type 0 where
  pub long : length xs ≡ length css
  pub chosen : (i : ℕ) → i < length css → get_or xs i 0 among get_or css i []

tuple_cons : (cs : List ℕ) (rest : List (List ℕ)) (c : ℕ) (ys : List ℕ) → c among cs → Tuple rest ys → Tuple (cs ∷ rest) (c ∷ ys)
tuple_cons cs rest c ys m w = record { long = ap suc w.long; chosen = at }
  where
    at : (i : ℕ) → i < suc (length rest) → get_or (c ∷ ys) i 0 among get_or (cs ∷ rest) i []
    at zero l = m
    at (suc i) l = w.chosen i (le_of_suc-le-suc l)

-- the head and the rest of a tuple
record Cons (cs : List ℕ) (rest : List (List ℕ)) (xs : List ℕ) : Type 0 where
  head : ℕ
  tail : List ℕ
  head_in : head among cs
  tail_in : tail among tuples rest
  whole : xs ≡ head ∷ tail

uncons : (cs : List ℕ) (rest : List (List ℕ)) (xs : List ℕ) → xs among tuples (cs ∷ rest) → Cons cs rest xs
uncons cs rest xs m =
    let r = flat_map_mem (λ c. map (λ ys. c ∷ ys) (tuples rest)) cs m in
    let s = map_mem (λ ys. r.0 ∷ ys) (tuples rest) r.2 in
    record { head = r.0; tail = s.0; head_in = r.1; tail_in = s.1; whole = s.2 }

cons_mem : (cs : List ℕ) (rest : List (List ℕ)) {c : ℕ} {ys : List ℕ} → c among cs → ys among tuples rest → c ∷ ys among tuples (cs ∷ rest)
cons_mem cs rest {c} m k = mem_flat_map (λ c. map (λ ys. c ∷ ys) (tuples rest)) cs m (mem_map (λ ys. c ∷ ys) (tuples rest) k)

pub tuples_mem : (css : List (List ℕ)) (xs : List ℕ) → xs among tuples css → Tuple css xs
tuples_mem [] xs m = record { long = ap length (Memᴰ.eq_of_singleton m); chosen = λ i l. absurd (not-suc-le-zero l) }
tuples_mem (cs ∷ rest) xs m =
    let u = uncons cs rest xs m in
    subst (Tuple (cs ∷ rest)) (sym u.whole) (tuple_cons cs rest u.head u.tail u.head_in (tuples_mem rest u.tail u.tail_in))

pub mem_tuples : (css : List (List ℕ)) (xs : List ℕ) → Tuple css xs → xs among tuples css
mem_tuples [] [] w = here refl
mem_tuples [] (x ∷ xs) w = absurd (omega (arith, w.long))
mem_tuples (cs ∷ rest) [] w = absurd (omega (arith, w.long))
mem_tuples (cs ∷ rest) (x ∷ xs) w =
    cons_mem cs rest (w.chosen 0 (omega arith))
    (mem_tuples rest xs (record { long = omega (arith, w.long); chosen = λ i l. w.chosen (suc i) (suc-le-suc l) }))

-- ---- the first tuple that passes a test

-- xs is earlier than ys: they agree before a place, and there xs has an earlier choice
pub record Earlier (css : List (List ℕ)) (xs ys : List ℕ) : Type 0 where
  pub place : ℕ
  pub inside : place < length css
  pub same : take place xs ≡ take place ys
  pub sooner : get_or xs place 0 among before (get_or ys place 0) (get_or css place [])

module _ {A : Type 0} where
  cond_append : (a : A) (us vs ws : List A) (b : Bool) → us ≡ vs ++ ws → cond b (a ∷ us) us ≡ cond b (a ∷ vs) vs ++ ws
  cond_append a us vs ws true e = ap (λ l. a ∷ l) e
  cond_append a us vs ws false e = e

  filter_append : (q : A → Bool) (us vs : List A) → filter q (us ++ vs) ≡ filter q us ++ filter q vs
  filter_append q [] vs = refl
  filter_append q (a ∷ us) vs = cond_append a (filter q (us ++ vs)) (filter q us) (filter q vs) (q a) (filter_append q us vs)

filter_map : (q : List ℕ → Bool) (c : ℕ) (yss : List (List ℕ))
    → filter q (map (λ ys. c ∷ ys) yss) ≡ map (λ ys. c ∷ ys) (filter (λ ys. q (c ∷ ys)) yss)
filter_map q c [] = refl
filter_map q c (ys ∷ yss) = step (q (c ∷ ys)) (filter_map q c yss)
  where
    step : (b : Bool) → filter q (map (λ ys. c ∷ ys) yss) ≡ map (λ ys. c ∷ ys) (filter (λ ys. q (c ∷ ys)) yss)
        → cond b ((c ∷ ys) ∷ filter q (map (λ ys. c ∷ ys) yss)) (filter q (map (λ ys. c ∷ ys) yss))
        ≡ map (λ ys. c ∷ ys) (cond b (ys ∷ filter (λ ys. q (c ∷ ys)) yss) (filter (λ ys. q (c ∷ ys)) yss))
    step true e = ap (λ l. (c ∷ ys) ∷ l) e
    step false e = e

-- the first of c's tuples, or of the others where c has none
head_here : (c : ℕ) (yss zss : List (List ℕ)) (d : List ℕ) → T (not (is_empty yss)) → head_d (map (λ ys. c ∷ ys) yss ++ zss) d ≡ c ∷ head_d yss []
unfolding head_d
head_here c [] zss d t = absurd t
head_here c (ys ∷ yss) zss d t = refl

head_later : (c : ℕ) (yss zss : List (List ℕ)) (d : List ℕ) → T (is_empty yss) → head_d (map (λ ys. c ∷ ys) yss ++ zss) d ≡ head_d zss d
head_later c [] zss d t = refl
head_later c (ys ∷ yss) zss d t = absurd t

module _ (rest : List (List ℕ)) where
  -- the first that passes is ys, or earlier than it
  abbrev LeastTuple : List ℕ → List ℕ → List ℕ → Type 0
  LeastTuple cs xs ys = (xs ≡ ys) ⊎ Earlier (cs ∷ rest) xs ys

  deeper : (cs : List ℕ) (c : ℕ) (xs ys : List ℕ) → (xs ≡ ys) ⊎ Earlier rest xs ys → LeastTuple cs (c ∷ xs) (c ∷ ys)
  deeper cs c xs ys (inl e) = inl (ap (λ l. c ∷ l) e)
  deeper cs c xs ys (inr e) =
      inr (record { place = suc e.place; inside = suc-le-suc e.inside; same = ap (λ l. c ∷ l) e.same; sooner = e.sooner })

  before_skip : (c x : ℕ) (cs : List ℕ) → T (not (eqb c x)) → before x (c ∷ cs) ≡ c ∷ before x cs
  before_skip c x cs t = cond_no (eqb c x) [] (c ∷ before x cs) t

  later : (c x : ℕ) (cs xs ys : List ℕ) → T (not (eqb c x)) → LeastTuple cs xs (x ∷ ys) → LeastTuple (c ∷ cs) xs (x ∷ ys)
  later c x cs xs ys t (inl e) = inl e
  later c x cs xs ys t (inr e) = inr (record { place = e.place; inside = e.inside; same = e.same; sooner = at e.place e.sooner })
    where
      at : (i : ℕ) → get_or xs i 0 among before (get_or (x ∷ ys) i 0) (get_or (cs ∷ rest) i [])
          → get_or xs i 0 among before (get_or (x ∷ ys) i 0) (get_or ((c ∷ cs) ∷ rest) i [])
      at zero m = subst (λ l. get_or xs 0 0 among l) (sym (before_skip c x cs t)) (there m)
      at (suc i) m = m

  at_once : (c x : ℕ) (cs xs ys : List ℕ) → T (not (eqb c x)) → LeastTuple (c ∷ cs) (c ∷ xs) (x ∷ ys)
  at_once c x cs xs ys t =
      inr (record { place = 0; inside = omega arith; same = refl; sooner = subst (λ l. c among l) (sym (before_skip c x cs t)) (here refl) })

  -- by the first choices cs, given the same of the rest
  by_choice : ((q : List ℕ → Bool) (ys : List ℕ) → ys among tuples rest → T (q ys)
      → (head_d (filter q (tuples rest)) [] ≡ ys) ⊎ Earlier rest (head_d (filter q (tuples rest)) []) ys)
      → (q : List ℕ → Bool) (d : List ℕ) (x : ℕ) (ys cs : List ℕ) → x among cs → ys among tuples rest → T (q (x ∷ ys))
      → LeastTuple cs (head_d (filter q (tuples (cs ∷ rest))) d) (x ∷ ys)
  unfolding flat_map
  by_choice ih q d x ys [] m k t = no_member m
  by_choice ih q d x ys (c ∷ cs) m k t =
      subst (λ l. LeastTuple (c ∷ cs) (head_d l d) (x ∷ ys)) (sym parts)
      (⊎_elim found
      (λ s. ⊎_elim (passed s (λ n. by_choice ih q d x ys cs n k t))
      (λ f. subst (λ l. LeastTuple (c ∷ cs) l (x ∷ ys)) (sym (head_here c mine others d f)) (at_once c x cs (head_d mine []) ys s))
      (test (is_empty mine)))
      (test (eqb c x)))
    where
      mine : List (List ℕ)
      mine = filter (λ ys. q (c ∷ ys)) (tuples rest)

      others : List (List ℕ)
      others = filter q (tuples (cs ∷ rest))

      parts : filter q (tuples ((c ∷ cs) ∷ rest)) ≡ map (λ ys. c ∷ ys) mine ++ others
      parts = filter_append q (map (λ ys. c ∷ ys) (tuples rest)) (tuples (cs ∷ rest)) ∙ ap (λ l. l ++ others) (filter_map q c (tuples rest))

      found : T (eqb c x) → LeastTuple (c ∷ cs) (head_d (map (λ ys. c ∷ ys) mine ++ others) d) (x ∷ ys)
      found s =
          let e : c ≡ x = eqb→eq c x s in
          let p : T (q (c ∷ ys)) = subst (λ z. T (q (z ∷ ys))) (sym e) t in
          let f : T (not (is_empty mine)) = nonempty mine (mem_filter (λ ys. q (c ∷ ys)) (tuples rest) k p) in
          subst (λ l. LeastTuple (c ∷ cs) l (x ∷ ys)) (sym (head_here c mine others d f))
          (subst (λ z. LeastTuple (c ∷ cs) (c ∷ head_d mine []) (z ∷ ys)) e (deeper (c ∷ cs) c (head_d mine []) ys (ih (λ ys. q (c ∷ ys)) ys k p)))

      further : T (not (eqb c x)) → x among c ∷ cs → x among cs
      further s (here r) = absurd (T_not (eqb c x) s (eq→eqb c x (sym r)))
      further s (there n) = n

      passed : T (not (eqb c x)) → (x among cs → LeastTuple cs (head_d others d) (x ∷ ys)) → T (is_empty mine)
          → LeastTuple (c ∷ cs) (head_d (map (λ ys. c ∷ ys) mine ++ others) d) (x ∷ ys)
      passed s go f =
          subst (λ l. LeastTuple (c ∷ cs) l (x ∷ ys)) (sym (head_later c mine others d f))
          (later c x cs (head_d others d) ys s (go (further s m)))

pub first_tuple : (css : List (List ℕ)) (q : List ℕ → Bool) (ys : List ℕ) → ys among tuples css → T (q ys)
    → (head_d (filter q (tuples css)) [] ≡ ys) ⊎ Earlier css (head_d (filter q (tuples css)) []) ys
unfolding head_d
first_tuple [] q ys m t =
    let e : ys ≡ [] = Memᴰ.eq_of_singleton m in
    inl (ap (λ l. head_d l []) (cond_yes (q []) ([] ∷ []) [] (subst (λ l. T (q l)) e t)) ∙ sym e)
first_tuple (cs ∷ rest) q ys m t =
    let u = uncons cs rest ys m in
    subst (λ l. (head_d (filter q (tuples (cs ∷ rest))) [] ≡ l) ⊎ Earlier (cs ∷ rest) (head_d (filter q (tuples (cs ∷ rest))) []) l) (sym u.whole)
    (by_choice rest (first_tuple rest) q [] u.head u.tail cs u.head_in u.tail_in (subst (λ l. T (q l)) u.whole t))

-- ---- a choice before another

before_in : (x c : ℕ) (cs : List ℕ) (b : Bool) {z : ℕ} → (z among before x cs → z among cs) → z among cond b [] (c ∷ before x cs) → z among c ∷ cs
before_in x c cs true ih m = no_member m
before_in x c cs false ih (here e) = here e
before_in x c cs false ih (there m) = there (ih m)

pub before_mem : (x : ℕ) (cs : List ℕ) {z : ℕ} → z among before x cs → z among cs
before_mem x [] m = m
before_mem x (c ∷ cs) m = before_in x c cs (eqb c x) (λ k. before_mem x cs k) m

less_in : (x k c : ℕ) (r : List ℕ) (b : Bool) → ((z : ℕ) → z among r → k < z) → (x among r → c among before x r → c < x)
    → x among cond b (k ∷ r) r → c among before x (cond b (k ∷ r) r) → c < x
less_in x k c r true above ih m h = step (eqb k x) (λ t. t) h
  where
    rest_of : T (not (eqb k x)) → x among k ∷ r → x among r
    rest_of t (here e) = absurd (T_not (eqb k x) t (eq→eqb k x (sym e)))
    rest_of t (there n) = n

    step : (b : Bool) → (T (not b) → T (not (eqb k x))) → c among cond b [] (k ∷ before x r) → c < x
    step true f n = no_member n
    step false f (here e) = let l = above x (rest_of (f tt) m) in omega arith
    step false f (there n) = ih (rest_of (f tt) m) n
less_in x k c r false above ih m h = ih m h

-- in ascending order, what stands before x is below x
pub before_less : (p : ℕ → Bool) (k n x c : ℕ) → x among filter p (iota k n) → c among before x (filter p (iota k n)) → c < x
before_less p k zero x c m h = no_member m
before_less p k (suc n) x c m h =
    less_in x k c (filter p (iota (suc k) n)) (p k)
    (λ z w. let q = range_mem (suc k) n (filter_mem p (iota (suc k) n) w).0 in omega (arith, q.0))
    (λ a b. before_less p (suc k) n x c a b) m h

-- what stands before x in two lists one after the other
before_append : (x : ℕ) (us vs : List ℕ) {c : ℕ} → c among before x (us ++ vs)
    → (c among before x us) ⊎ ((x among us → ⊥) × (c among before x vs))
before_append x [] vs m = inr (λ n. no_member n, m)
before_append x (u ∷ us) vs {c} m = step (eqb u x) (λ t. t) (λ n. before_append x us vs n) m
  where
    nowhere : T (not (eqb u x)) → (x among us → ⊥) → x among u ∷ us → ⊥
    nowhere t f (here e) = T_not (eqb u x) t (eq→eqb u x (sym e))
    nowhere t f (there n) = f n

    step : (b : Bool) → (T (not b) → T (not (eqb u x)))
        → (c among before x (us ++ vs) → (c among before x us) ⊎ ((x among us → ⊥) × (c among before x vs)))
        → c among cond b [] (u ∷ before x (us ++ vs)) → (c among cond b [] (u ∷ before x us)) ⊎ ((x among u ∷ us → ⊥) × (c among before x vs))
    step true f ih n = no_member n
    step false f ih (here e) = inl (here e)
    step false f ih (there n) = ⊎_elim (λ h. inl (there h)) (λ h. inr (nowhere (f tt) h.0, h.1)) (ih n)

-- a list made of stages, one after the other: what stands before x is of an earlier stage, or stands before x in x's own
module _ (f : ℕ → List ℕ) (stage : ℕ → ℕ) (staged : (k z : ℕ) → z among f k → stage z ≡ k) where
  pub before_stage : (k n x c : ℕ) → x among flat_map f (iota k n) → c among before x (flat_map f (iota k n))
      → (stage c < stage x) ⊎ ((stage c ≡ stage x) × (x among f (stage x)) × (c among before x (f (stage x))))
  unfolding flat_map
  before_stage k zero x c m h = no_member m
  before_stage k (suc n) x c m h =
      ⊎_elim
      (λ a. let e = staged k c (before_mem x (f k) a) in ⊎_elim (λ b. inr (own a e b)) (λ b. inl (omega (arith, e, later_stage b))) place)
      (λ a. ⊎_elim (λ b. absurd (a.0 b)) (λ b. before_stage (suc k) n x c b a.1) place)
      (before_append x (f k) (flat_map f (iota (suc k) n)) h)
    where
      place : (x among f k) ⊎ (x among flat_map f (iota (suc k) n))
      place = Memᴰ.append_cases (f k) m

      own : c among before x (f k) → stage c ≡ k → x among f k
          → (stage c ≡ stage x) × (x among f (stage x)) × (c among before x (f (stage x)))
      own a e b = let q = sym (staged k x b) in (e ∙ q, subst (λ z. x among f z) q b, subst (λ z. c among before x (f z)) q a)

      later_stage : x among flat_map f (iota (suc k) n) → k < stage x
      later_stage b =
          let r = flat_map_mem f (iota (suc k) n) b in
          let q = range_mem (suc k) n r.1 in
          omega (arith, staged r.0 x r.2, q.0)
