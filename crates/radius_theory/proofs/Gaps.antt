-- Between which radii the centres stay, and what every assignment shows of the tides. Assumes nothing.
use Prim.Native.Nat.{ℕ, zero, suc, ◌+◌, ◌-◌, ◌≤◌, ◌<◌}
use native.Mathlib.Omega.{arith}
use mathlib.Core.Path.{◌≡◌, refl, sym, ap, ◌∙◌, subst}
use mathlib.Core.Logic.{◌⊎◌, inl, inr}
use mathlib.Core.Bool.{Bool, true, false, cond}
use mathlib.Core.List.Memᴰ
use mathlib.Core.List.Memᴰ.{head as here}
use mathlib.Core.List.{List, [], ◌∷◌, ◌++◌}
use lib.Dec.{T, ltb, le→leb, ltb→lt, lt→ltb, eqb→eq}
use lib.ListN.{length, get_or}
use Rattle.lists.specs.Lists.{◌among◌, all_of}
use Rattle.lists.proofs.Tests.{split}
use Rattle.lists.proofs.Members.{all_at, all_of_lem, getD_mem, place}
use Rattle.study.specs.Limits.{cell}
use Rattle.study.specs.Problem.{Problem, centres_among, centres, centre_of, block, labels}
use Rattle.study.specs.Theorems.{Assignment}
use Rattle.study.proofs.ProblemLaws.{centre_below, among_below, apart}
use Rattle.promise.specs.Promise.{Test}
use Rattle.radius_theory.specs.Arrays.{Represents, ball}

-- ---- where the centres stay

same_test : (b c : Bool) → (T b → T c) → (T c → T b) → c ≡ b
same_test true true f h = refl
same_test true false f h = absurd (f tt)
same_test false true f h = absurd (h tt)
same_test false false f h = refl

mem_more : (b : Bool) (cs : List ℕ) (t : ℕ) {c : ℕ} → c among cs → c among cond b (cs ++ (t ∷ [])) cs
mem_more true cs t m = Memᴰ.append_left (t ∷ []) m
mem_more false cs t m = m

mem_last : (b : Bool) (cs : List ℕ) (t : ℕ) → T b → t among cond b (cs ++ (t ∷ [])) cs
mem_last true cs t s = Memᴰ.append_right cs (here refl)
mem_last false cs t s = absurd s

module _ (P : Problem) (g : ℕ) where
  among_more : (t k : ℕ) {c : ℕ} → c among centres_among P.dist g t → c among centres_among P.dist g (t + k)
  unfolding centres_among
  among_more t zero {c} m = let e : t ≡ t + 0 = omega arith in subst (λ z. c among centres_among P.dist g z) e m
  among_more t (suc k) {c} m =
      let e : suc (t + k) ≡ t + suc k = omega arith in
      subst (λ z. c among centres_among P.dist g z) e
      (mem_more (all_of (λ c. ltb g (P.dist c (t + k))) (centres_among P.dist g (t + k))) (centres_among P.dist g (t + k)) (t + k) (among_more t k m))

  among_centres : (t : ℕ) → t ≤ P.size → {c : ℕ} → c among centres_among P.dist g t → c among centres P g
  unfolding centres
  among_centres t l {c} m =
      let e : t + (P.size - t) ≡ P.size = omega arith in
      subst (λ z. c among centres_among P.dist g z) e (among_more t (P.size - t) m)

  -- two centres, by their numbers as tides, are farther than g apart
  pub apart_mem : ((i j : ℕ) → P.dist i j ≡ P.dist j i) → (c t : ℕ) → c among centres P g → t among centres P g → c < t → g < P.dist c t
  apart_mem sm c t m k l = by (split p.0 q.0) (split q.0 p.0)
    where
      p : (i : ℕ) × (i < length (centres P g)) × (get_or (centres P g) i 0 ≡ c)
      p = place 0 (centres P g) m

      q : (i : ℕ) × (i < length (centres P g)) × (get_or (centres P g) i 0 ≡ t)
      q = place 0 (centres P g) k

      by : (p.0 < q.0) ⊎ (q.0 ≤ p.0) → (q.0 < p.0) ⊎ (p.0 ≤ q.0) → g < P.dist c t
      by (inl s) r = rw (p.2, q.2) at (apart P g p.0 q.0 s q.1)
      by (inr s) (inl r) = rw (sm c t) (rw (p.2, q.2) at (apart P g q.0 p.0 r p.1))
      by (inr s) (inr r) =
          let e : p.0 ≡ q.0 = omega (arith, s, r) in
          let f : c ≡ t = sym p.2 ∙ ap (λ z. get_or (centres P g) z 0) e ∙ q.2 in
          absurd (omega (arith, f, l))

-- the first tide is the first centre
pub first_centre : (P : Problem) (g : ℕ) → 0 < P.size → get_or (centres P g) 0 0 ≡ 0
unfolding centres centres_among
first_centre P g pos =
    let e : suc (P.size - 1) ≡ P.size = omega arith in
    let r = first (P.size - 1) in
    ap (λ z. get_or (centres_among P.dist g z) 0 0) (sym e) ∙ ap (λ (cs : List ℕ). get_or cs 0 0) r.1
  where
    first : (t : ℕ) → (cs : List ℕ) × (centres_among P.dist g (suc t) ≡ 0 ∷ cs)
    first zero = ([], refl)
    first (suc t) = by (all_of (λ c. ltb g (P.dist c (suc t))) (centres_among P.dist g (suc t))) (first t)
      where
        by : (b : Bool) → (cs : List ℕ) × (centres_among P.dist g (suc t) ≡ 0 ∷ cs)
            → (cs : List ℕ) × (cond b (centres_among P.dist g (suc t) ++ (suc t ∷ [])) (centres_among P.dist g (suc t)) ≡ 0 ∷ cs)
        by true r = (r.0 ++ (suc t ∷ []), ap (λ (cs : List ℕ). cs ++ (suc t ∷ [])) r.1)
        by false r = r

module _ (P : Problem) (g h : ℕ) (up : g ≤ h) where
  -- any two centres at g are farther than h apart
  abbrev pub Wide : Type 0
  Wide = (c t : ℕ) → c among centres P g → t among centres P g → c < t → h < P.dist c t

  far : ℕ → ℕ → ℕ → Bool
  far r t c = ltb r (P.dist c t)

  same_among : Wide → (t : ℕ) → t ≤ P.size → centres_among P.dist h t ≡ centres_among P.dist g t
  unfolding centres_among far
  same_among w zero l = refl
  same_among w (suc t) l =
      ap (λ (cs : List ℕ). cond (all_of (far h t) cs) (cs ++ (t ∷ [])) cs) (same_among w t (omega arith))
      ∙ ap (λ (b : Bool). cond b (centres_among P.dist g t ++ (t ∷ [])) (centres_among P.dist g t))
      (same_test (all_of (far g t) (centres_among P.dist g t)) (all_of (far h t) (centres_among P.dist g t))
      (λ s. all_of_lem (far h t) (centres_among P.dist g t) (λ c m.
      lt→ltb h (P.dist c t) (w c t (among_centres P g t (omega arith) m)
      (among_centres P g (suc t) l (mem_last (all_of (far g t) (centres_among P.dist g t)) (centres_among P.dist g t) t s))
      (among_below P g t m))))
      (λ s. all_of_lem (far g t) (centres_among P.dist g t) (λ c m.
      let k = ltb→lt h (P.dist c t) (all_at (far h t) (centres_among P.dist g t) s m) in
      lt→ltb g (P.dist c t) (omega arith))))

  pub same_centres : Wide → centres P h ≡ centres P g
  unfolding centres
  same_centres w = same_among w P.size (omega arith)

-- ---- what every assignment shows

module _ {d : List ℕ} {n : ℕ} {E : Test} {P : Problem} (Q : Represents d n E P) (g : ℕ) (xs : List ℕ) (A : Assignment P g xs) where
  abbrev blocks : ℕ
  blocks = length (centres P g)

  -- a block lies in its centre's ball of any radius from g on, so that ball is sufficient
  pub ball_full : (h : ℕ) → g ≤ h → (m : ℕ) → 1 ≤ m → m ≤ blocks → T (P.enough (ball d (centre_of (centres P g) m) h))
  unfolding block centre_of
  ball_full h up m a k =
      let c = get_or (centres P g) (m - 1) 0 in
      let below : c < P.size = centre_below P g (getD_mem 0 (centres P g) (m - 1) (omega arith)) in
      Q.lawful.upward (block (labels xs) m) (ball d c h)
      (λ t l u.
      let e : labels xs t ≡ m = eqb→eq (labels xs t) m u in
      let q : P.dist c t ≤ g = subst (λ z. P.dist (get_or (centres P g) (z - 1) 0) t ≤ g) e (A.in_radius t l) in
      let z : P.dist c t ≡ cell d c t = Q.dist c t (omega (arith, Q.size)) (omega (arith, Q.size)) in
      le→leb (cell d c t) h (omega arith))
      (A.enough m a k)
