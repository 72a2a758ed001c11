-- Finite lists, and sums, counts and tables over the numbers below a bound. Everything here computes. Assumes nothing.
use Rattle.std.specs.Prelude.{ℕ, zero, suc, ◌+◌, max, min, ◌≡◌, Bool, true, false, cond, not, ◌&&◌, leb, eqb, length, drop, get_or}
use mathlib.Core.List.{List, [], ◌∷◌, ◌++◌, map, flat_map, Memᴰ}

infix 40 ◌among◌
-- x is an element of xs
abbrev pub ◌among◌ : {A : Type 0} → A → List A → Type 0
x among xs = Memᴰ x xs

-- x is lo, hi or between them
abbrev pub between : ℕ → ℕ → ℕ → Bool
between lo hi x = leb lo x && leb x hi

-- each of these tests holds
abbrev pub each : List Bool → Bool
each [] = true
each (b ∷ bs) = b && each bs

-- k, k + 1, .. : n numbers
abbrev pub iota : ℕ → ℕ → List ℕ
iota k zero = []
iota k (suc n) = k ∷ iota (suc k) n

-- ---- over the numbers below n

-- p holds of each
unfoldable pub every : ℕ → (ℕ → Bool) → Bool
every zero p = true
every (suc n) p = every n p && p n

-- p holds of at least one
abbrev pub any : ℕ → (ℕ → Bool) → Bool
any n p = not (every n (λ i. not (p i)))

-- f 0 + f 1 + .. + f (n - 1)
unfoldable pub sum_below : ℕ → (ℕ → ℕ) → ℕ
sum_below zero f = 0
sum_below (suc n) f = sum_below n f + f n

-- 1 where it holds, else 0
abbrev pub bit : Bool → ℕ
bit true = 1
bit false = 0

-- how many pass p
unfoldable pub count_below : ℕ → (ℕ → Bool) → ℕ
count_below n p = sum_below n (λ t. bit (p t))

-- the greatest f t; 0 where n is 0
unfoldable pub greatest : ℕ → (ℕ → ℕ) → ℕ
greatest zero f = 0
greatest (suc n) f = max (f n) (greatest n f)

-- f 0, f 1, .. f (n - 1)
unfoldable pub tabulate : {A : Type 0} → ℕ → (ℕ → A) → List A
tabulate n f = map f (iota 0 n)

-- the first n places hold f 0, f 1, ..; those past them stay
unfoldable pub overwrite : {A : Type 0} → ℕ → (ℕ → A) → List A → List A
overwrite n f l = tabulate n f ++ drop n l

-- xs in the front of a list; the places past them stay
abbrev pub over : {A : Type 0} → List A → List A → List A
over xs l = xs ++ drop (length xs) l

-- the places from n on stay, and so does the length
pub record TailKept (n : ℕ) (old new : List ℕ) : Type 0 where
  pub same_length : length new ≡ length old
  pub rest : drop n new ≡ drop n old

-- place i of a list; 0 past its end
abbrev pub at : List ℕ → ℕ → ℕ
at l i = get_or l i 0

-- ---- lists

module _ {A : Type 0} where
  -- p holds of each element
  abbrev pub all_of : (A → Bool) → List A → Bool
  all_of p [] = true
  all_of p (x ∷ xs) = p x && all_of p xs

  -- the elements of which p holds, in order
  abbrev pub filter : (A → Bool) → List A → List A
  filter p [] = []
  filter p (x ∷ xs) = let r = filter p xs in cond (p x) (x ∷ r) r

  abbrev pub is_empty : List A → Bool
  is_empty [] = true
  is_empty (x ∷ xs) = false

-- the least of x and a list
abbrev pub least_from : ℕ → List ℕ → ℕ
least_from x [] = x
least_from x (y ∷ ys) = min x (least_from y ys)

-- the least of a list; 0 of the empty list
abbrev pub least : List ℕ → ℕ
least [] = 0
least (x ∷ xs) = least_from x xs

-- the elements of a list that stand before the first x
abbrev pub before : ℕ → List ℕ → List ℕ
before x [] = []
before x (c ∷ cs) = let r = before x cs in cond (eqb c x) [] (c ∷ r)

-- all ways to take one element of each list, in dictionary order
abbrev pub tuples : List (List ℕ) → List (List ℕ)
tuples [] = [] ∷ []
tuples (cs ∷ rest) = let r = tuples rest in flat_map (λ c. map (λ xs. c ∷ xs) r) cs
