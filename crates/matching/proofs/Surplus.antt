-- Of a set p of tides: those that are needed for the minima of their settings, the first b of each setting; the surplus ones; and
-- b0 tides that have what is needed. Assumes nothing.
use Prim.Native.Nat.{ℕ, suc, ◌+◌, ◌-◌, ◌≤◌, ◌<◌}
use native.Mathlib.Omega.{arith}
use mathlib.Core.Path.{◌≡◌, sym, ap, ◌∙◌, subst}
use mathlib.Core.Bool.{Bool, true, false, ◌&&◌, ◌||◌, not}
use mathlib.Core.List.{List}
use lib.Dec.{T, eqb, eqb→eq, not_T, T_not}
use lib.ListN.{get_or}
use Rattle.lists.specs.Lists.{sum_below, count_below}
use Rattle.lists.proofs.Tests.{and_T, T-left, T-right, eq→eqb}
use Rattle.lists.proofs.Counts.{sum_same, count_le}
use Rattle.lists.proofs.Counting.{firsts, firsts_pass, count_firsts, count_iff, count_by, count_classes}

-- the tides of p that have the setting j + 1
unfoldable pub of_setting : (setting : ℕ → ℕ) (p : ℕ → Bool) (j : ℕ) → ℕ → Bool
of_setting setting p j t = p t && eqb (setting t) (suc j)

-- t is one of the first b of its setting
unfoldable pub needed : (b : List ℕ) (setting : ℕ → ℕ) (p : ℕ → Bool) → ℕ → Bool
needed b setting p t = firsts (get_or b (setting t - 1) 0) (of_setting setting p (setting t - 1)) t

unfoldable pub surplus : (b : List ℕ) (setting : ℕ → ℕ) (p : ℕ → Bool) → ℕ → Bool
surplus b setting p t = p t && not (needed b setting p t)

-- those needed, and the first k of the surplus ones
unfoldable pub kept : (k : ℕ) (b : List ℕ) (setting : ℕ → ℕ) (p : ℕ → Bool) → ℕ → Bool
kept k b setting p t = p t && (needed b setting p t || firsts k (surplus b setting p) t)

or_left : (a b : Bool) → T a → T (a || b)
or_left true b t = tt
or_left false b t = absurd t

or_right : (a b : Bool) → T b → T (a || b)
or_right true b t = tt
or_right false b t = t

or_not : (a b : Bool) → T (a || b) → T (not a) → T b
or_not true b t n = absurd n
or_not false b t n = t

module _ (b : List ℕ) (setting : ℕ → ℕ) (p : ℕ → Bool) where
  abbrev own : ℕ → ℕ → Bool
  own j = firsts (get_or b j 0) (of_setting setting p j)

  -- one of the first b of the setting j + 1 is needed, and has that setting
  pub own_needed : (j t : ℕ) → T (own j t) → T (needed b setting p t)
  unfolding needed of_setting
  own_needed j t h =
      let e : setting t ≡ suc j = eqb→eq (setting t) (suc j)
      (T-right (p t) (eqb (setting t) (suc j)) (firsts_pass (get_or b j 0) (of_setting setting p j) t h)) in
      let i : j ≡ setting t - 1 = omega arith in
      subst (λ i. T (own i t)) i h

  pub own_setting : (j t : ℕ) → T (own j t) → setting t ≡ suc j
  unfolding of_setting
  own_setting j t h = eqb→eq (setting t) (suc j) (T-right (p t) (eqb (setting t) (suc j)) (firsts_pass (get_or b j 0) (of_setting setting p j) t h))

  pub own_in : (j t : ℕ) → T (own j t) → T (p t)
  unfolding of_setting
  own_in j t h = T-left (p t) (eqb (setting t) (suc j)) (firsts_pass (get_or b j 0) (of_setting setting p j) t h)

  pub surplus_in : (t : ℕ) → T (surplus b setting p t) → T (p t)
  unfolding surplus
  surplus_in t h = T-left (p t) (not (needed b setting p t)) h

  pub surplus_not : (t : ℕ) → T (surplus b setting p t) → T (needed b setting p t) → ⊥
  unfolding surplus
  surplus_not t h = T_not (needed b setting p t) (T-right (p t) (not (needed b setting p t)) h)

  needed_in : (t : ℕ) → T (needed b setting p t) → T (p t)
  unfolding needed
  needed_in t h = own_in (setting t - 1) t h

  -- in n tides of the settings 1 to 8
  module _ (n : ℕ) (low : (t : ℕ) → t < n → 1 ≤ setting t) (high : (t : ℕ) → t < n → setting t ≤ 8) where
    -- the needed ones, by their settings
    count_needed : count_below n (needed b setting p) ≡ sum_below 8 (λ j. count_below n (own j))
    unfolding needed
    count_needed =
        sym (count_classes 8 n (needed b setting p) (λ t. setting t - 1) (λ t l. omega (arith, low t l, high t l)))
        ∙ sum_same 8 (λ j. count_below n (λ t. needed b setting p t && eqb (setting t - 1) j)) (λ j. count_below n (own j))
        (λ j l. count_iff n (λ t. needed b setting p t && eqb (setting t - 1) j) (own j)
        (λ t k h.
        let q = eqb→eq (setting t - 1) j (T-right (needed b setting p t) (eqb (setting t - 1) j) h) in
        subst (λ i. T (own i t)) q (T-left (needed b setting p t) (eqb (setting t - 1) j) h))
        (λ t k h. let e = own_setting j t h in
        and_T (needed b setting p t) (eqb (setting t - 1) j) (own_needed j t h) (eq→eqb (setting t - 1) j (omega arith))))

    count_both : count_below n p ≡ count_below n (needed b setting p) + count_below n (surplus b setting p)
    unfolding surplus
    count_both =
        count_by n p (needed b setting p)
        ∙ ap (λ c. c + count_below n (surplus b setting p)) (count_iff n (λ t. p t && needed b setting p t) (needed b setting p)
        (λ t l h. T-right (p t) (needed b setting p t) h) (λ t l h. and_T (p t) (needed b setting p t) (needed_in t h) h))

    -- p meets the minima b0 and b
    module _ (b0 : ℕ) (whole : b0 ≤ count_below n p) (each : (j : ℕ) → j < 8 → get_or b j 0 ≤ count_below n (of_setting setting p j))
        (fit : sum_below 8 (λ j. get_or b j 0) ≤ b0) where
      pub count_own : (j : ℕ) → j < 8 → count_below n (own j) ≡ get_or b j 0
      count_own j l = omega (arith, count_firsts (get_or b j 0) (of_setting setting p j) n, each j l)

      needed_all : count_below n (needed b setting p) ≡ sum_below 8 (λ j. get_or b j 0)
      needed_all = count_needed ∙ sum_same 8 (λ j. count_below n (own j)) (λ j. get_or b j 0) count_own

      pub count_surplus : b0 - sum_below 8 (λ j. get_or b j 0) ≤ count_below n (surplus b setting p)
      count_surplus = omega (arith, needed_all, count_both)

      abbrev rest : ℕ
      rest = b0 - sum_below 8 (λ j. get_or b j 0)

      -- b0 of them are kept
      pub count_kept : count_below n (kept rest b setting p) ≡ b0
      unfolding kept
      count_kept =
          let e = count_by n (kept rest b setting p) (needed b setting p) in
          let a : count_below n (λ t. kept rest b setting p t && needed b setting p t) ≡ count_below n (needed b setting p)
          = count_iff n (λ t. kept rest b setting p t && needed b setting p t) (needed b setting p)
          (λ t l h. T-right (kept rest b setting p t) (needed b setting p t) h) (λ t l h. and_T (kept rest b setting p t) (needed b setting p t) (all t h) h) in
          let c : count_below n (λ t. kept rest b setting p t && not (needed b setting p t)) ≡ count_below n (firsts rest (surplus b setting p))
          = count_iff n (λ t. kept rest b setting p t && not (needed b setting p t)) (firsts rest (surplus b setting p))
          (λ t l. more t) (λ t l h. and_T (kept rest b setting p t) (not (needed b setting p t)) (some t h)
          (not_T (needed b setting p t) (surplus_not t (firsts_pass rest (surplus b setting p) t h)))) in
          omega (arith, e, a, c, needed_all, count_surplus, count_firsts rest (surplus b setting p) n)
        where
          all : (t : ℕ) → T (needed b setting p t) → T (kept rest b setting p t)
          all t h =
              and_T (p t) (needed b setting p t || firsts rest (surplus b setting p) t) (needed_in t h)
              (or_left (needed b setting p t) (firsts rest (surplus b setting p) t) h)

          some : (t : ℕ) → T (firsts rest (surplus b setting p) t) → T (kept rest b setting p t)
          some t h =
              and_T (p t) (needed b setting p t || firsts rest (surplus b setting p) t) (surplus_in t (firsts_pass rest (surplus b setting p) t h))
              (or_right (needed b setting p t) (firsts rest (surplus b setting p) t) h)

          more : (t : ℕ) → T (kept rest b setting p t && not (needed b setting p t)) → T (firsts rest (surplus b setting p) t)
          more t h =
              or_not (needed b setting p t) (firsts rest (surplus b setting p) t)
              (T-right (p t) (needed b setting p t || firsts rest (surplus b setting p) t) (T-left (kept rest b setting p t) (not (needed b setting p t)) h))
              (T-right (kept rest b setting p t) (not (needed b setting p t)) h)

      -- and b of each setting
      pub kept_each : (j : ℕ) → j < 8 → get_or b j 0 ≤ count_below n (λ t. kept rest b setting p t && eqb (setting t) (suc j))
      unfolding kept
      kept_each j l =
          omega (
            arith,
            count_own j l,
            count_le n (own j) (λ t. kept rest b setting p t && eqb (setting t) (suc j)) (λ t k h.
                and_T (kept rest b setting p t) (eqb (setting t) (suc j))
                (and_T (p t) (needed b setting p t || firsts rest (surplus b setting p) t) (own_in j t h)
                (or_left (needed b setting p t) (firsts rest (surplus b setting p) t) (own_needed j t h)))
                (eq→eqb (setting t) (suc j) (own_setting j t h))),
          )
