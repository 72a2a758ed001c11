-- The first reason that holds, of two lists one after the other and of many, and that it is the only answer that goes by the list. Assumes
-- nothing.
use Prim.Native.Nat.{ℕ, zero, suc, ◌+◌, ◌≤◌, ◌<◌}
use native.Mathlib.Nat.{le_refl}
use native.Mathlib.Omega.{arith}
use mathlib.Core.Path.{◌≡◌, refl, sym, ap, ◌∙◌, subst}
use mathlib.Core.Logic.{⊎_elim, ◌↔◌}
use mathlib.Core.Bool.{Bool, true, false, cond, not}
use mathlib.Core.List.{List, [], ◌∷◌, ◌++◌, flat_map}
use mathlib.Core.List.Memᴰ.{head as here}
use mathlib.Core.List.Memᴰ.{tail as there}
use lib.Dec.{T}
use lib.ListN.{get_or, take}
use Rattle.lists.specs.Lists.{◌among◌, iota}
use Rattle.lists.proofs.Tests.{split, cond_yes, cond_no}
use Rattle.lists.proofs.Members.{no_member}
use Rattle.study.specs.Refusals.{Numbered, number, Verdict, accepted, refused, settled, Reason, ◌⇒◌, first_of, IsFirst}
use Rattle.study.proofs.CallLaws.{NoneHolds}

-- the first of xs, or of ys where none of xs holds
pub first_of_append : (xs ys : List Reason) → first_of (xs ++ ys) ≡ settled (first_of xs) (first_of ys) (first_of xs)
unfolding first_of
first_of_append [] ys = refl
first_of_append (x ∷ xs) ys = by x.holds (first_of_append xs ys)
  where
    by : (b : Bool) → first_of (xs ++ ys) ≡ settled (first_of xs) (first_of ys) (first_of xs)
        → cond b (refused x.because) (first_of (xs ++ ys))
        ≡ settled (cond b (refused x.because) (first_of xs)) (first_of ys) (cond b (refused x.because) (first_of xs))
    by true e = refl
    by false e = e

-- none of xs holds
pub first_of_later : (xs ys : List Reason) → first_of xs ≡ accepted → first_of (xs ++ ys) ≡ first_of ys
first_of_later xs ys e = first_of_append xs ys ∙ ap (λ v. settled v (first_of ys) v) e

-- one of xs holds
pub first_of_sooner : (xs ys : List Reason) {r : Numbered} → first_of xs ≡ refused r → first_of (xs ++ ys) ≡ refused r
first_of_sooner xs ys e = first_of_append xs ys ∙ ap (λ v. settled v (first_of ys) v) e

-- none of either holds
pub first_of_both : (xs ys : List Reason) → (first_of (xs ++ ys) ≡ accepted) ↔ ((first_of xs ≡ accepted) × (first_of ys ≡ accepted))
first_of_both xs ys = (λ e. apart (first_of xs) (sym (first_of_append xs ys) ∙ e), λ h. first_of_later xs ys h.0 ∙ h.1)
  where
    apart : (v : Verdict) → settled v (first_of ys) v ≡ accepted → (v ≡ accepted) × (first_of ys ≡ accepted)
    apart accepted e = (refl, e)
    apart (refused r) e = (e, absurd (let z : ◌≡◌ {A = ℕ} 0 1 = cc in omega arith))

-- what follows xs counts only where none of xs holds
pub first_of_after : (xs ys zs : List Reason) → (first_of xs ≡ accepted → first_of ys ≡ first_of zs) → first_of (xs ++ ys) ≡ first_of (xs ++ zs)
first_of_after xs ys zs f = first_of_append xs ys ∙ by (first_of xs) f ∙ sym (first_of_append xs zs)
  where
    by : (v : Verdict) → (v ≡ accepted → first_of ys ≡ first_of zs) → settled v (first_of ys) v ≡ settled v (first_of zs) v
    by accepted g = g refl
    by (refused r) g = refl

pub holds_none : (rs : List Reason) → NoneHolds rs → first_of rs ≡ accepted
unfolding first_of
holds_none [] h = refl
holds_none (r ∷ rs) h = cond_no r.holds _ _ h.0 ∙ holds_none rs h.1

-- reason i holds and none before it: write out i, and the tests compute
pub refused_at : (rs : List Reason) (i : ℕ) → NoneHolds (take i rs) → T (get_or rs i (false ⇒ number 0)).holds
    → first_of rs ≡ refused (get_or rs i (false ⇒ number 0)).because
unfolding first_of
refused_at [] i h t = absurd t
refused_at (r ∷ rs) zero h t = cond_yes r.holds _ _ t
refused_at (r ∷ rs) (suc i) h t = cond_no r.holds _ _ h.0 ∙ refused_at rs i h.1 t

-- none of these gives that refusal
abbrev pub Others : Numbered → List Reason → Type 0
Others x [] = Unit {0}
Others x (r ∷ rs) = (r.because ≡ x → ⊥) × Others x rs

-- refused by the last reason, which none before it can stand for: none before it holds, and it does
pub refused_last : (rs : List Reason) (last : Reason) → Others last.because rs → first_of (rs ++ (last ∷ [])) ≡ refused last.because
    → NoneHolds rs × T last.holds
unfolding first_of
refused_last [] last others e = (tt, by last.holds e)
  where
    by : (b : Bool) → cond b (refused last.because) accepted ≡ refused last.because → T b
    by true q = tt
    by false q = absurd (let z : ◌≡◌ {A = ℕ} 0 1 = cc in omega arith)
refused_last (r ∷ rs) last others e = by r.holds (refused_last rs last others.1) e
  where
    by : (b : Bool) → (first_of (rs ++ (last ∷ [])) ≡ refused last.because → NoneHolds rs × T last.holds)
        → cond b (refused r.because) (first_of (rs ++ (last ∷ []))) ≡ refused last.because → (T (not b) × NoneHolds rs) × T last.holds
    by true ih q = absurd (others.0 cc)
    by false ih q = let h = ih q in ((tt, h.0), h.1)

-- the reasons h k, h (k + 1), .. : m lists
module _ (h : ℕ → List Reason) where
  pub none_of_runs : (k m : ℕ) → (first_of (flat_map h (iota k m)) ≡ accepted) ↔ ((u : ℕ) → k ≤ u → u < k + m → first_of (h u) ≡ accepted)
  unfolding flat_map first_of
  none_of_runs k zero = (λ e u a b. absurd (omega arith), λ f. refl)
  none_of_runs k (suc m) =
      let both = first_of_both (h k) (flat_map h (iota (suc k) m)) in
      let rest = none_of_runs (suc k) m in (
        λ e u a b. ⊎_elim (λ l. rest.0 (both.0 e).1 u l (omega arith))
            (λ l. let q : k ≡ u = omega arith in subst (λ z. first_of (h z) ≡ accepted) q (both.0 e).0) (split k u),
        λ f. both.1 (f k (le_refl k) (omega arith), rest.1 (λ u a b. f u (omega arith) (omega arith))),
      )

  pub first_of_runs : (k m t : ℕ) {r : Numbered} → k ≤ t → t < k + m → ((u : ℕ) → k ≤ u → u < t → first_of (h u) ≡ accepted)
      → first_of (h t) ≡ refused r → first_of (flat_map h (iota k m)) ≡ refused r
  unfolding flat_map
  first_of_runs k zero t a b f e = absurd (omega arith)
  first_of_runs k (suc m) t {r} a b f e =
      ⊎_elim
      (λ l. first_of_later (h k) (flat_map h (iota (suc k) m)) (f k (le_refl k) l)
      ∙ first_of_runs (suc k) m t l (omega arith) (λ u c d. f u (omega arith) d) e)
      (λ l. let q : t ≡ k = omega arith in first_of_sooner (h k) (flat_map h (iota (suc k) m)) (subst (λ z. first_of (h z) ≡ refused r) q e))
      (split k t)

-- ---- the answer that goes by a list of reasons

-- of a list with one reason more in front, which does not hold
later : (r : Reason) (rs : List Reason) → r.holds ≡ false → (v : Verdict) → IsFirst rs v → IsFirst (r ∷ rs) v
later r rs e accepted none = by
  where
    by : (q : Reason) → q among (r ∷ rs) → q.holds ≡ false
    by q (here p) = ap (λ (x : Reason). x.holds) p ∙ e
    by q (there m) = none q m
later r rs e (refused x) (before, q, rest, split, none, holds, because) =
    (r ∷ before, q, rest, ap (λ l. r ∷ l) split, by, holds, because)
  where
    by : (p : Reason) → p among (r ∷ before) → p.holds ≡ false
    by p (here z) = ap (λ (x : Reason). x.holds) z ∙ e
    by p (there m) = none p m

pub is_first : (rs : List Reason) → IsFirst rs (first_of rs)
unfolding first_of
is_first [] = λ r m. no_member m
is_first (r ∷ rs) = by r.holds refl (is_first rs)
  where
    by : (b : Bool) → r.holds ≡ b → IsFirst rs (first_of rs) → IsFirst (r ∷ rs) (cond b (refused r.because) (first_of rs))
    by true e f = ([], r, rs, refl, λ q m. no_member m, e, refl)
    by false e f = later r rs e (first_of rs) f

-- where none before it holds, it refuses
refuses : (before : List Reason) (r : Reason) (rest : List Reason) → ((q : Reason) → q among before → q.holds ≡ false) → r.holds ≡ true
    → refused r.because ≡ first_of (before ++ (r ∷ rest))
unfolding first_of
refuses [] r rest none e = sym (rw e)
refuses (q ∷ before) r rest none e =
    refuses before r rest (λ p m. none p (there m)) e ∙ sym (ap (λ b. cond b (refused q.because) (first_of (before ++ (r ∷ rest)))) (none q (here refl)))

pub only_first : (rs : List Reason) (v : Verdict) → IsFirst rs v → v ≡ first_of rs
unfolding first_of
only_first [] accepted none = refl
only_first (r ∷ rs) accepted none =
    only_first rs accepted (λ q m. none q (there m)) ∙ sym (ap (λ b. cond b (refused r.because) (first_of rs)) (none r (here refl)))
only_first rs (refused x) (before, r, rest, split, none, holds, because) =
    ap refused (sym because) ∙ refuses before r rest none holds ∙ ap first_of (sym split)
