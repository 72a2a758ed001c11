-- Tables, and memory whose first places hold one. Assumes nothing.
use Prim.Native.Nat.{ℕ, zero, suc, ◌+◌, ◌-◌, ◌≤◌, ◌<◌}
use native.Mathlib.Nat.{not-suc-le-zero, le_of_suc-le-suc}
use native.Mathlib.Omega.{arith}
use native.Mathlib.Numerals.{add-one}
use mathlib.Core.Path.{◌≡◌, refl, sym, ap, ◌∙◌}
use mathlib.Core.Logic.{⊎_elim}
use mathlib.Core.List.{List, [], ◌∷◌, ◌++◌, map, append_assoc}
use lib.ListN.{length, drop, get_or, set, length-append, length-drop, length-set, get_or-append}
use lib.Seq.{ext_get_or, get_or-append-add, get_or-drop, drop_at, drop-cons, drop-set-lt, set_at}
use Rattle.lists.specs.Lists.{◌among◌, iota, tabulate, overwrite, TailKept}
use Rattle.lists.proofs.Tests.{split}
use Rattle.lists.proofs.Members.{mem_map, map_mem, mem_range, range_mem}

length_map_range : {A : Type 0} (f : ℕ → A) (k n : ℕ) → length (map f (iota k n)) ≡ n
length_map_range f k zero = refl
length_map_range f k (suc n) = ap suc (length_map_range f (suc k) n)

getD_map_range : {A : Type 0} (f : ℕ → A) (d : A) (k n i : ℕ) → i < n → get_or (map f (iota k n)) i d ≡ f (k + i)
getD_map_range f d k zero i l = absurd (not-suc-le-zero l)
getD_map_range f d k (suc n) zero l = ap f (omega arith)
getD_map_range f d k (suc n) (suc i) l = getD_map_range f d (suc k) n i (le_of_suc-le-suc l) ∙ ap f (omega arith)

map_range_snoc : {A : Type 0} (f : ℕ → A) (k n : ℕ) → map f (iota k (suc n)) ≡ map f (iota k n) ++ (f (k + n) ∷ [])
map_range_snoc f k zero = ap (λ (z : ℕ). f z ∷ []) (omega arith)
map_range_snoc f k (suc n) = ap (λ l. f k ∷ l) (map_range_snoc f (suc k) n ∙ ap (λ (z : ℕ). map f (iota (suc k) n) ++ (f z ∷ [])) (omega arith))

-- ---- a list whose tail stays

pub tail_same : (n : ℕ) (l : List ℕ) → TailKept n l l
tail_same n l = record { same_length = refl; rest = refl }

pub tail_trans : {n : ℕ} {a b c : List ℕ} → TailKept n a b → TailKept n b c → TailKept n a c
tail_trans p q = record { same_length = q.same_length ∙ p.same_length; rest = q.rest ∙ p.rest }

-- one place before it is written
pub tail_set : {n : ℕ} {a b : List ℕ} (t x : ℕ) → t < n → TailKept n a b → TailKept n a (set b t x)
tail_set {n} {a} {b} t x l k = record { same_length = length-set b t x ∙ k.same_length; rest = drop-set-lt n b t x l ∙ k.rest }

-- ---- tables

module _ {A : Type 0} where
  pub length_tabulate : (n : ℕ) (f : ℕ → A) → length (tabulate n f) ≡ n
  unfolding tabulate
  length_tabulate n f = length_map_range f 0 n

  pub get_d_tabulate : (n : ℕ) (f : ℕ → A) (i : ℕ) (d : A) → i < n → get_or (tabulate n f) i d ≡ f i
  unfolding tabulate
  get_d_tabulate n f i d l = getD_map_range f d 0 n i l ∙ ap f (omega arith)

  pub mem_tabulate : (n : ℕ) (f : ℕ → A) (i : ℕ) → i < n → f i among tabulate n f
  unfolding tabulate
  mem_tabulate n f i l = mem_map f (iota 0 n) (mem_range 0 n i (omega arith) (omega arith))

  pub tabulate_mem : (n : ℕ) (f : ℕ → A) {x : A} → x among tabulate n f → (i : ℕ) × (i < n) × (x ≡ f i)
  unfolding tabulate
  tabulate_mem n f m = let r = map_mem f (iota 0 n) m in let q = range_mem 0 n r.1 in (r.0, omega arith, r.2)

  pub tabulate_suc : (n : ℕ) (f : ℕ → A) → tabulate (suc n) f ≡ tabulate n f ++ (f n ∷ [])
  unfolding tabulate
  tabulate_suc n f = map_range_snoc f 0 n ∙ ap (λ (z : ℕ). map f (iota 0 n) ++ (f z ∷ [])) (omega arith)

  -- a list is the table of its places
  pub tabulate_is : (n : ℕ) (f : ℕ → A) (d : A) (xs : List A) → length xs ≡ n → ((i : ℕ) → i < n → f i ≡ get_or xs i d) → tabulate n f ≡ xs
  tabulate_is n f d xs e h =
      ext_get_or d (tabulate n f) xs (length_tabulate n f ∙ sym e)
      (λ i l. let k : i < n = omega (arith, length_tabulate n f) in get_d_tabulate n f i d k ∙ h i k)

  -- tables that agree below n
  pub tabulate_ext : (n : ℕ) (f g : ℕ → A) → ((i : ℕ) → i < n → f i ≡ g i) → tabulate n f ≡ tabulate n g
  unfolding tabulate
  tabulate_ext zero f g e = refl
  tabulate_ext (suc n) f g e =
      tabulate_is (suc n) f (f 0) (tabulate (suc n) g) (length_tabulate (suc n) g) (λ i l. e i l ∙ sym (get_d_tabulate (suc n) g i (f 0) l))

  -- ---- memory

  module _ (f : ℕ → A) (l : List A) where
    pub length_overwrite : (n : ℕ) → n ≤ length l → length (overwrite n f l) ≡ length l
    unfolding overwrite
    length_overwrite n h = simp (length-append, length_tabulate, length-drop) (omega arith)

    pub getD_overwrite : (n i : ℕ) (d : A) → i < n → get_or (overwrite n f l) i d ≡ f i
    unfolding overwrite
    getD_overwrite n i d h = get_or-append (tabulate n f) (drop n l) d i (rw length_tabulate h) ∙ get_d_tabulate n f i d h

    -- a place past those written
    pub get_d_past : (n i : ℕ) (d : A) → n ≤ i → get_or (overwrite n f l) i d ≡ get_or l i d
    unfolding overwrite
    get_d_past n i d h =
        let e : n + (i - n) ≡ i = omega arith in
        let e' : length (tabulate n f) + (i - n) ≡ i = rw length_tabulate e in
        ap (λ (k : ℕ). get_or (tabulate n f ++ drop n l) k d) (sym e') ∙ get_or-append-add (tabulate n f) (drop n l) (i - n) d
        ∙ get_or-drop n l (i - n) d ∙ ap (λ (k : ℕ). get_or l k d) e

    pub drop_overwrite : (n : ℕ) → drop n (overwrite n f l) ≡ drop n l
    unfolding overwrite
    drop_overwrite n = drop_at (tabulate n f) (drop n l) n (length_tabulate n f)

    -- memory that holds the table already
    pub overwrite_same : (n : ℕ) (d : A) → n ≤ length l → ((i : ℕ) → i < n → f i ≡ get_or l i d) → overwrite n f l ≡ l
    overwrite_same n d fits h =
        ext_get_or d (overwrite n f l) l (length_overwrite n fits)
        (λ i _. ⊎_elim (λ k. getD_overwrite n i d k ∙ h i k) (λ k. get_d_past n i d k) (split i n))

    pub overwrite_none : l ≡ overwrite 0 f l
    unfolding overwrite tabulate
    overwrite_none = refl

    -- one more place written
    pub overwrite_more : (n : ℕ) → n < length l → set (overwrite n f l) n (f n) ≡ overwrite (n + 1) f l
    unfolding overwrite
    overwrite_more n h =
        rw (
          drop-cons l n (f n) h,
          set_at (tabulate n f) (get_or l n (f n)) (drop (suc n) l) (f n) n (length_tabulate n f),
          add-one n,
          tabulate_suc n f,
          append_assoc,
        )

    -- the same as a step of a loop that stores a value
    pub overwrite_step : {m : List A} {n : ℕ} (v : A) → m ≡ overwrite n f l → v ≡ f n → n < length l → set m n v ≡ overwrite (n + 1) f l
    overwrite_step {m} {n} v e q h = rw (e, q) (overwrite_more n h)

    pub overwrite_done : {m : List A} {i n : ℕ} → i ≡ n → m ≡ overwrite i f l → m ≡ overwrite n f l
    overwrite_done q e = e ∙ ap (λ z. overwrite z f l) q

    -- a place not yet written
    pub overwrite_read : {m : List A} {n : ℕ} (d : A) → m ≡ overwrite n f l → (i : ℕ) → n ≤ i → get_or m i d ≡ get_or l i d
    overwrite_read {m} {n} d e i h = ap (λ (x : List A). get_or x i d) e ∙ get_d_past n i d h

    pub overwrite_ext : (n : ℕ) (h : ℕ → A) → ((i : ℕ) → i < n → f i ≡ h i) → overwrite n f l ≡ overwrite n h l
    unfolding overwrite
    overwrite_ext n h e = ap (λ (xs : List A). xs ++ drop n l) (tabulate_ext n f h e)
