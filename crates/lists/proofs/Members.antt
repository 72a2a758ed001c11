-- Members and places of lists: of all, filter, map, flat_map, range, least. Assumes nothing.
use Prim.Native.Nat.{ℕ, zero, suc, ◌+◌, ◌≤◌, ◌<◌, max, min}
use native.Mathlib.Nat.{not-suc-le-zero, le_of_suc-le-suc}
use native.Mathlib.Omega.{arith}
use mathlib.Core.Path.{◌≡◌, refl, sym, ap, ◌∙◌, subst}
use mathlib.Core.Logic.{◌⊎◌, inl, inr, ⊎_elim}
use mathlib.Core.Bool.{Bool, true, false, cond, ◌&&◌, not}
use mathlib.Core.List.{List, [], ◌∷◌, ◌++◌, map, flat_map, head_d, append-nil, append_assoc}
use mathlib.Core.List.Memᴰ
use mathlib.Core.List.Memᴰ.{head as here}
use mathlib.Core.List.Memᴰ.{tail as there}
use lib.Dec.{T}
use lib.ListN.{length, get_or}
use Rattle.lists.specs.Lists.{◌among◌, iota, greatest, least_from, least, all_of, filter, is_empty}
use Rattle.lists.proofs.Tests.{and_T, T-left, T-right, split, cond_yes}

module _ {A : Type 0} where
  pub no_member : {B : Type 0} {x : A} → x among [] → B
  no_member h = elim h [ ]

  pub all_at : (p : A → Bool) (xs : List A) → T (all_of p xs) → {x : A} → x among xs → T (p x)
  all_at p [] t m = no_member m
  all_at p (y ∷ ys) t (here e) = subst (λ z. T (p z)) (sym e) (T-left (p y) (all_of p ys) t)
  all_at p (y ∷ ys) t (there m) = all_at p ys (T-right (p y) (all_of p ys) t) m

  pub all_of_lem : (p : A → Bool) (xs : List A) → ((x : A) → x among xs → T (p x)) → T (all_of p xs)
  all_of_lem p [] f = tt
  all_of_lem p (x ∷ xs) f = and_T (p x) (all_of p xs) (f x (here refl)) (all_of_lem p xs (λ y m. f y (there m)))

  pub all_append : (p : A → Bool) (xs ys : List A) → T (all_of p xs) → T (all_of p ys) → T (all_of p (xs ++ ys))
  all_append p [] ys a b = b
  all_append p (x ∷ xs) ys a b = and_T (p x) (all_of p (xs ++ ys)) (T-left (p x) (all_of p xs) a) (all_append p xs ys (T-right (p x) (all_of p xs) a) b)

  -- a test that fails over a list fails at one of its elements
  pub not_all : (p : A → Bool) (xs : List A) → T (not (all_of p xs)) → (x : A) × (x among xs) × T (not (p x))
  not_all p [] t = absurd t
  not_all p (x ∷ xs) t = step (λ s. not_all p xs s) (p x) (λ n. n) t
    where
      step : (T (not (all_of p xs)) → (y : A) × (y among xs) × T (not (p y)))
          → (b : Bool) → (T (not b) → T (not (p x))) → T (not (b && all_of p xs)) → (y : A) × (y among x ∷ xs) × T (not (p y))
      step ih true f s = ((ih s).0, there (ih s).1, (ih s).2)
      step ih false f s = (x, here refl, f tt)

  -- ---- filter
  filter_in : (p : A → Bool) (x : A) (xs r : List A) {y : A} (b : Bool) → (T b → T (p x)) → (y among r → (y among xs) × T (p y))
      → y among cond b (x ∷ r) r → (y among x ∷ xs) × T (p y)
  filter_in p x xs r true f ih (here e) = (here e, subst (λ z. T (p z)) (sym e) (f tt))
  filter_in p x xs r true f ih (there m) = (there (ih m).0, (ih m).1)
  filter_in p x xs r false f ih m = (there (ih m).0, (ih m).1)

  pub filter_mem : (p : A → Bool) (xs : List A) {y : A} → y among filter p xs → (y among xs) × T (p y)
  filter_mem p [] m = no_member m
  filter_mem p (x ∷ xs) m = filter_in p x xs (filter p xs) (p x) (λ t. t) (λ m'. filter_mem p xs m') m

  cond_there : (x : A) (r : List A) (b : Bool) {y : A} → y among r → y among cond b (x ∷ r) r
  cond_there x r true m = there m
  cond_there x r false m = m

  pub mem_filter : (p : A → Bool) (xs : List A) {y : A} → y among xs → T (p y) → y among filter p xs
  mem_filter p [] m t = no_member m
  mem_filter p (x ∷ xs) {y} (here e) t =
      subst (λ l. y among l) (sym (cond_yes (p x) (x ∷ filter p xs) (filter p xs) (subst (λ z. T (p z)) e t))) (here e)
  mem_filter p (x ∷ xs) (there m) t = cond_there x (filter p xs) (p x) (mem_filter p xs m t)

  -- ---- the first element
  pub first_mem : (d : A) (xs : List A) → T (not (is_empty xs)) → head_d xs d among xs
  unfolding head_d
  first_mem d [] t = absurd t
  first_mem d (x ∷ xs) t = here refl

  pub nonempty : (xs : List A) {x : A} → x among xs → T (not (is_empty xs))
  nonempty [] m = no_member m
  nonempty (x ∷ xs) m = tt

  pub empty_of : (xs : List A) → ((x : A) → x among xs → ⊥) → T (is_empty xs)
  empty_of [] f = tt
  empty_of (x ∷ xs) f = f x (here refl)

  -- ---- places
  pub getD_mem : (d : A) (xs : List A) (i : ℕ) → i < length xs → get_or xs i d among xs
  getD_mem d [] i l = absurd (not-suc-le-zero l)
  getD_mem d (x ∷ xs) zero l = here refl
  getD_mem d (x ∷ xs) (suc i) l = there (getD_mem d xs i (le_of_suc-le-suc l))

  pub place : (d : A) (xs : List A) {x : A} → x among xs → (i : ℕ) × (i < length xs) × (get_or xs i d ≡ x)
  place d [] m = no_member m
  place d (y ∷ xs) (here e) = (0, omega arith, sym e)
  place d (y ∷ xs) (there m) = let r = place d xs m in (suc r.0, omega (arith, r.1), r.2)

module _ {A B : Type 0} where
  pub mem_map : (f : A → B) {x : A} (xs : List A) → x among xs → f x among map f xs
  mem_map f [] m = no_member m
  mem_map f (x ∷ xs) (here e) = here (ap f e)
  mem_map f (x ∷ xs) (there m) = there (mem_map f xs m)

  pub map_mem : (f : A → B) (xs : List A) {y : B} → y among map f xs → (x : A) × (x among xs) × (y ≡ f x)
  map_mem f [] m = no_member m
  map_mem f (x ∷ xs) (here e) = (x, here refl, e)
  map_mem f (x ∷ xs) (there m) = let r = map_mem f xs m in (r.0, there r.1, r.2)

  pub mem_flat_map : (f : A → List B) (xs : List A) {x : A} {y : B} → x among xs → y among f x → y among flat_map f xs
  unfolding flat_map
  mem_flat_map f [] m h = no_member m
  mem_flat_map f (z ∷ xs) {x} {y} (here e) h = Memᴰ.append_left (flat_map f xs) (subst (λ w. y among f w) e h)
  mem_flat_map f (z ∷ xs) (there m) h = Memᴰ.append_right (f z) (mem_flat_map f xs m h)

  pub flat_map_mem : (f : A → List B) (xs : List A) {y : B} → y among flat_map f xs → (x : A) × (x among xs) × (y among f x)
  unfolding flat_map
  flat_map_mem f [] m = no_member m
  flat_map_mem f (x ∷ xs) {y} m =
      ⊎_elim (λ h. (x, here refl, h)) (λ h. let r = flat_map_mem f xs h in (r.0, there r.1, r.2)) (Memᴰ.append_cases (f x) m)

  pub flat_map_append : (f : A → List B) (xs ys : List A) → flat_map f (xs ++ ys) ≡ flat_map f xs ++ flat_map f ys
  unfolding flat_map
  flat_map_append f [] ys = refl
  flat_map_append f (x ∷ xs) ys = ap (λ r. f x ++ r) (flat_map_append f xs ys) ∙ sym (append_assoc (f x) (flat_map f xs) (flat_map f ys))

  pub flat_map_one : (f : A → List B) (x : A) → flat_map f (x ∷ []) ≡ f x
  unfolding flat_map
  flat_map_one f x = append-nil (f x)

-- ---- range

pub range_mem : (k n : ℕ) {x : ℕ} → x among iota k n → (k ≤ x) × (x < k + n)
range_mem k zero m = no_member m
range_mem k (suc n) (here e) = omega arith
range_mem k (suc n) (there m) = let h = range_mem (suc k) n m in omega arith

pub mem_range : (k n x : ℕ) → k ≤ x → x < k + n → x among iota k n
mem_range k zero x h l = absurd (omega arith)
mem_range k (suc n) x h l = ⊎_elim (λ t. there (mem_range (suc k) n x t (omega arith))) (λ t. here (omega arith)) (split k x)

-- ---- least and greatest

min_is : (a b : ℕ) → (min a b ≡ a) ⊎ (min a b ≡ b)
min_is a b = ⊎_elim (λ t. inl (omega arith)) (λ t. inr (omega arith)) (split a b)

least_from_mem : (x : ℕ) (xs : List ℕ) → least_from x xs among x ∷ xs
least_from_mem x [] = here refl
least_from_mem x (y ∷ ys) = ⊎_elim (λ e. here e) (λ e. there (Memᴰ.cast e (least_from_mem y ys))) (min_is x (least_from y ys))

least_from_le : (x : ℕ) (xs : List ℕ) {z : ℕ} → z among x ∷ xs → least_from x xs ≤ z
least_from_le x [] (here e) = omega arith
least_from_le x [] (there m) = no_member m
least_from_le x (y ∷ ys) (here e) = omega arith
least_from_le x (y ∷ ys) (there m) = let h = least_from_le y ys m in omega arith

pub least_mem : (xs : List ℕ) {z : ℕ} → z among xs → least xs among xs
least_mem [] m = no_member m
least_mem (x ∷ xs) m = least_from_mem x xs

pub least_le : (xs : List ℕ) {z : ℕ} → z among xs → least xs ≤ z
least_le [] m = no_member m
least_le (x ∷ xs) m = least_from_le x xs m

least_from_more : (x : ℕ) (xs : List ℕ) (y : ℕ) → least_from x (xs ++ (y ∷ [])) ≡ min (least_from x xs) y
least_from_more x [] y = refl
least_from_more x (z ∷ xs) y = ap (min x) (least_from_more z xs y) ∙ omega arith

-- of one number more
pub least_more : (xs : List ℕ) (y : ℕ) → 0 < length xs → least (xs ++ (y ∷ [])) ≡ min (least xs) y
least_more [] y l = absurd (not-suc-le-zero l)
least_more (x ∷ xs) y l = least_from_more x xs y

pub greatest_ge : (n : ℕ) (f : ℕ → ℕ) (t : ℕ) → t < n → f t ≤ greatest n f
unfolding greatest
greatest_ge zero f t l = absurd (not-suc-le-zero l)
greatest_ge (suc n) f t l =
    ⊎_elim (λ s. let h = greatest_ge n f t s in omega arith)
    (λ s. let e : t ≡ n = omega arith in subst (λ u. f u ≤ max (f n) (greatest n f)) (sym e) (omega arith)) (split t n)

pub greatest_le : (n : ℕ) (f : ℕ → ℕ) (b : ℕ) → ((t : ℕ) → t < n → f t ≤ b) → greatest n f ≤ b
unfolding greatest
greatest_le zero f b h = omega arith
greatest_le (suc n) f b h = let p = h n (omega arith) in let q = greatest_le n f b (λ t l. h t (omega arith)) in omega arith

max_is : (a b : ℕ) → (max a b ≡ a) ⊎ (max a b ≡ b)
max_is a b = ⊎_elim (λ t. inr (omega arith)) (λ t. inl (omega arith)) (split a b)

-- it is 0, or it is reached
pub greatest_is : (n : ℕ) (f : ℕ → ℕ) → (greatest n f ≡ 0) ⊎ ((t : ℕ) × (t < n) × (greatest n f ≡ f t))
unfolding greatest
greatest_is zero f = inl refl
greatest_is (suc n) f =
    ⊎_elim (λ e. inr (n, omega arith, e))
    (λ e. ⊎_elim (λ z. inl (e ∙ z)) (λ r. inr (r.0, omega (arith, r.1), e ∙ r.2)) (greatest_is n f))
    (max_is (f n) (greatest n f))

-- ---- the place of the first element that passes p; the length where none does

abbrev pub find : (ℕ → Bool) → List ℕ → ℕ
find p [] = 0
find p (x ∷ xs) = cond (p x) 0 (suc (find p xs))

pub find_le : (p : ℕ → Bool) (xs : List ℕ) (i : ℕ) → i < length xs → T (p (get_or xs i 0)) → find p xs ≤ i
find_le p [] i l t = absurd (not-suc-le-zero l)
find_le p (x ∷ xs) zero l t = rw (cond_yes (p x) 0 (suc (find p xs)) t) (omega arith)
find_le p (x ∷ xs) (suc i) l t = at_most (p x) (find_le p xs i (le_of_suc-le-suc l) t)
  where
    at_most : (b : Bool) → find p xs ≤ i → cond b 0 (suc (find p xs)) ≤ suc i
    at_most true h = omega arith
    at_most false h = omega arith

pub find_pass : (p : ℕ → Bool) (xs : List ℕ) → find p xs < length xs → T (p (get_or xs (find p xs) 0))
find_pass p [] l = absurd (not-suc-le-zero l)
find_pass p (x ∷ xs) l = step (λ h. find_pass p xs h) (p x) (λ t. t) l
  where
    step : (find p xs < length xs → T (p (get_or xs (find p xs) 0)))
        → (b : Bool) → (T b → T (p x)) → cond b 0 (suc (find p xs)) < suc (length xs) → T (p (get_or (x ∷ xs) (cond b 0 (suc (find p xs))) 0))
    step ih true f h = f tt
    step ih false f h = ih (le_of_suc-le-suc h)
