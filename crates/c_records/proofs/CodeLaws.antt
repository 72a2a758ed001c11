-- The code of every verdict fits 32 bits: a pair has numbers of tides. Assumes nothing.
use Prim.Native.Nat.{ℕ, zero, suc, ◌+◌, ◌-◌, ◌≤◌, ◌<◌}
use native.Mathlib.Omega.{arith}
use mathlib.Core.Path.{◌≡◌, refl, sym, ap, ◌∙◌, subst}
use mathlib.Core.Bool.{Bool, true, false, cond, not}
use mathlib.Core.List.Memᴰ.{head as here}
use mathlib.Core.List.{List, [], ◌∷◌, ◌++◌, map, flat_map}
use lib.Dec.{T, leb, leb→le}
use Rattle.lists.specs.Lists.{◌among◌, iota, filter}
use Rattle.lists.proofs.Members.{filter_mem, map_mem, flat_map_mem, range_mem}
use Rattle.study.specs.Refusals.{Numbered, number, seven, refused, Reason, first_of, fresh_reasons, held_reasons}
use Rattle.study.specs.declared.refusals.Number.{Number}
use Rattle.study.specs.declared.refusals.Number.TheVariants.{Seven}
use Rattle.study.specs.Numbers.{said_by}
use Rattle.study.specs.Calls.{triangle, Pair, violations, first_violation}
use Rattle.study.proofs.LadderLaws.{ladder_either}
use Rattle.validity.specs.Memory.{State, short, is_dataset}
use Rattle.access.specs.Calls.{Holding, holding_of, Caller, Source, Update, Inquiry, begins, changes, asks, answer}
use Rattle.access.specs.Passed.{held_answer}
use Rattle.access.proofs.AccessLaws.{ladder_is, source_answer, update_answer, inquiry_answer}
use Rattle.c_records.specs.Record.{code}
use Rattle.c_records.specs.Records.{Narrow}

abbrev pub AllNarrow : List Reason → Type 0
AllNarrow [] = Unit {0}
AllNarrow (r ∷ rs) = Narrow (refused r.because) × AllNarrow rs

-- ---- a refusal's code

pub coded : {x y : Number} {n : Numbered} → x ≡ y → said_by x ≡ n → code (refused (said_by y)) ≡ code (refused n)
coded e h = ap (λ m. code (refused m)) (ap said_by (sym e) ∙ h)

-- a refusal with a pair of its own
pub pair_own : {x : Number} {n : Numbered} {i j : ℕ} → x ≡ Seven i j → said_by x ≡ n → Narrow (refused n) → Narrow (refused (seven i j))
pair_own e h n = subst (λ m. Narrow (refused m)) (sym h ∙ ap said_by e) n

-- ---- reasons

-- a number of document 01
pub small : {m : ℕ} → T (leb m 26) → Narrow (refused (number m))
small {m} t = record { fits = omega (arith, leb→le m 26 t) }

pub first_narrow : (rs : List Reason) → AllNarrow rs → Narrow (first_of rs)
unfolding first_of
first_narrow [] h = record { fits = omega arith }
first_narrow (r ∷ rs) h = by r.holds (first_narrow rs h.1)
  where
    by : (b : Bool) → Narrow (first_of rs) → Narrow (cond b (refused r.because) (first_of rs))
    by true n = h.0
    by false n = n

pub append_narrow : (xs ys : List Reason) → AllNarrow xs → AllNarrow ys → AllNarrow (xs ++ ys)
append_narrow [] ys a b = b
append_narrow (x ∷ xs) ys a b = (a.0, append_narrow xs ys a.1 b)

pub runs_narrow : (h : ℕ → List Reason) (k m : ℕ) → ((t : ℕ) → t < k + m → AllNarrow (h t)) → AllNarrow (flat_map h (iota k m))
unfolding flat_map
runs_narrow h k zero f = tt
runs_narrow h k (suc m) f =
    append_narrow (h k) (flat_map h (iota (suc k) m)) (f k (omega arith)) (runs_narrow h (suc k) m (λ t l. f t (omega arith)))

-- ---- a pair of fewer than 128 tides

module _ (dist : ℕ → ℕ → ℕ) (n : ℕ) (new : ℕ → ℕ) (few : n ≤ 127) where
  abbrev broken? : ℕ → ℕ → Bool
  broken? i j = not (triangle (dist i j) (new i) (new j))

  abbrev upper : ℕ → List ℕ
  upper i = iota (suc i) (n - suc i)

  inside : (p : Pair) → p among violations dist n new → (p.lower < n) × (p.upper < n)
  unfolding violations
  inside p m =
      let r = flat_map_mem (λ i. map (λ j. record { lower = i; upper = j }) (filter (broken? i) (upper i))) (iota 0 n) m in
      let q = map_mem (λ j. record { lower = r.0; upper = j }) (filter (broken? r.0) (upper r.0)) r.2 in
      let k = filter_mem (broken? r.0) (upper r.0) q.1 in
      let a = range_mem 0 n r.1 in
      let b = range_mem (suc r.0) (n - suc r.0) k.0 in
      subst (λ (z : Pair). (z.lower < n) × (z.upper < n)) (sym q.2) (omega (arith, a.1), omega (arith, a.1, b.0, b.1))

  pub pair_narrow : Narrow (refused (first_violation (violations dist n new)))
  pair_narrow = first (violations dist n new) inside
    where
      first : (ps : List Pair) → ((p : Pair) → p among ps → (p.lower < n) × (p.upper < n)) → Narrow (refused (first_violation ps))
      first [] f = small tt
      first (p ∷ ps) f = let h = f p (here refl) in record { fits = omega (arith, h.0, h.1) }

-- ---- answers

module _ (s : State) where
  pub source_narrow : (S : Source) → AllNarrow S.own → Narrow (answer s (begins S))
  unfolding fresh_reasons
  source_narrow S h = subst Narrow (sym (source_answer s S)) (first_narrow (fresh_reasons (short s) S.own) (small tt, h))

  held_narrow : (by : Caller) (own : Holding → List Reason) → (is_dataset s ≡ true → AllNarrow (own (holding_of s))) → Narrow (held_answer s by own)
  unfolding held_reasons fresh_reasons
  held_narrow by own f =
      subst Narrow (ladder_is s by own)
      (ladder_either (short s) by.users (is_dataset s) Narrow (own (holding_of s))
      (first_narrow (held_reasons (short s) by.users (is_dataset s) []) (small tt, (small tt, (small tt, tt))))
      (λ A. first_narrow (own (holding_of s)) (f A.tested)))

  pub update_narrow : (U : Update) → (is_dataset s ≡ true → AllNarrow (U.own (holding_of s))) → Narrow (answer s (changes U))
  update_narrow U f = subst Narrow (sym (update_answer s U)) (held_narrow U.caller U.own f)

  pub inquiry_narrow : (Q : Inquiry) → AllNarrow (Q.own (holding_of s)) → Narrow (answer s (asks Q))
  inquiry_narrow Q h = subst Narrow (sym (inquiry_answer s Q)) (held_narrow Q.caller Q.own (λ _. h))
