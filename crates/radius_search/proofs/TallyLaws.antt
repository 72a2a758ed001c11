-- Tides counted by setting, and whether the counts meet the minima. Assumes nothing.
use Prim.Native.Nat.{ℕ, suc, ◌+◌, ◌≤◌, ◌<◌}
use native.Mathlib.Omega.{arith}
use native.Mathlib.Numerals.{add-one}
use native.Mathlib.Decide.{ℕ_discrete}
use mathlib.Core.Path.{◌≡◌, refl, sym, ap, ap₂, ◌∙◌, subst}
use mathlib.Core.Bool.{Bool, true, false, ◌&&◌}
use mathlib.Core.List.{List}
use lib.Dec.{leb, eqb}
use lib.ListN.{length, get_or, set, replicate, length-replicate, get_or-replicate, length-set}
use lib.Seq.{ext_get_or, get_or-set_same, get_or-set_other}
use borrow.Author.Tests.{eq-eqb, ne_eqb}
use Rattle.lists.specs.Lists.{bit, count_below}
use Rattle.lists.proofs.Tests.{every_same}
use Rattle.lists.proofs.Counting.{count_next}
use Rattle.lists.proofs.Counts.{count_zero, count_most}
use Rattle.lists.proofs.Tables.{length_tabulate, get_d_tabulate}
use Rattle.study.specs.Limits.{max_tides}
use Rattle.study.specs.declared.Minima.{Minima}
use Rattle.study.specs.Study.{meets}
use Rattle.radius_search.specs.Tally.{tally, Tallied, TallyRoom, met}

module _ (s : List ℕ) (p : ℕ → Bool) where
  tally_length : (t : ℕ) → length (tally s p t) ≡ 9
  unfolding tally
  tally_length t = length_tabulate 9 (λ j. count_below t (λ u. p u && eqb (get_or s u 0) j))

  tally_at : (t j : ℕ) → j < 9 → get_or (tally s p t) j 0 ≡ count_below t (λ u. p u && eqb (get_or s u 0) j)
  unfolding tally
  tally_at t j l = get_d_tabulate 9 (λ j. count_below t (λ u. p u && eqb (get_or s u 0) j)) j 0 l

  pub tallied_none : {counts : List ℕ} → counts ≡ replicate 9 0 → Tallied s p 0 0 counts
  tallied_none e =
      record {
        found_is = sym (count_zero p);
        counts_are =
            e
            ∙ ext_get_or 0 (replicate 9 0) (tally s p 0) (length-replicate {A = ℕ} 9 0 ∙ sym (tally_length 0))
            (λ j l. let k : j < 9 = omega (arith, length-replicate {A = ℕ} 9 0) in
            get_or-replicate 9 j 0 0 k ∙ sym (tally_at 0 j k ∙ count_zero (λ u. p u && eqb (get_or s u 0) j)));
      }

  -- tide t of setting r is counted, or not
  tally_add : (t r : ℕ) → r ≡ get_or s t 0 → r < 9 → set (tally s p t) r (get_or (tally s p t) r 0 + bit (p t)) ≡ tally s p (t + 1)
  tally_add t r e l =
      ext_get_or 0 _ (tally s p (t + 1)) (simp length-set (tally_length t ∙ sym (tally_length (t + 1))))
      (λ j k. let q : j < 9 = omega (arith, tally_length t, rw length-set at k) in
      side j q (ℕ_discrete j r) ∙ sym (tally_at (t + 1) j q ∙ count_next t (λ u. p u && eqb (get_or s u 0) j)))
    where
      own : (b : Bool) → bit b ≡ bit (b && eqb (get_or s t 0) r)
      own true = ap bit (sym (eq-eqb (get_or s t 0) r (sym e)))
      own false = refl

      other : (j : ℕ) (b : Bool) → (j ≡ r → ⊥) → bit (b && eqb (get_or s t 0) j) ≡ 0
      other j true f = ap bit (ne_eqb (get_or s t 0) j (λ q. f (sym q ∙ sym e)))
      other j false f = refl

      side : (j : ℕ) → j < 9 → Dec (j ≡ r) → get_or (set (tally s p t) r (get_or (tally s p t) r 0 + bit (p t))) j 0
          ≡ count_below t (λ u. p u && eqb (get_or s u 0) j) + bit (p t && eqb (get_or s t 0) j)
      side j q (yes f) =
          rw f (get_or-set_same (tally s p t) r (get_or (tally s p t) r 0 + bit (p t)) 0 (omega (arith, tally_length t))
          ∙ ap₂ (λ a b. a + b) (tally_at t r l) (own (p t)))
      side j q (no f) =
          get_or-set_other (tally s p t) r j (get_or (tally s p t) r 0 + bit (p t)) 0 f
          ∙ tally_at t j q
          ∙ let z = other j (p t) f in omega arith

module _ {s : List ℕ} {p : ℕ → Bool} where
  tallied_more : {t found : ℕ} {counts : List ℕ} (x r : ℕ) → Tallied s p t found counts → x ≡ bit (p t) → r ≡ get_or s t 0 → r < 9
      → Tallied s p (t + 1) (found + x) (set counts r (get_or counts r 0 + x))
  tallied_more {t} x r A e f l =
      record {
        found_is = ap₂ (λ a b. a + b) A.found_is e ∙ sym (count_next t p);
        counts_are = rw (A.counts_are, e) (tally_add s p t r f l);
      }

  pub tallied_done : {t n found : ℕ} {counts : List ℕ} → t ≡ n → Tallied s p t found counts → Tallied s p n found counts
  tallied_done {found = found} {counts = counts} e A = subst (λ z. Tallied s p z found counts) e A

  pub tallied_long : {t found : ℕ} {counts : List ℕ} → Tallied s p t found counts → length counts ≡ 9
  tallied_long {t} A = ap length A.counts_are ∙ tally_length s p t

  -- no count exceeds the number of tides
  pub tallied_few : {t found : ℕ} {counts : List ℕ} → Tallied s p t found counts → found ≤ t
  tallied_few {t} A = omega (arith, A.found_is, count_most t p)

  pub tallied_small : {t found : ℕ} {counts : List ℕ} → Tallied s p t found counts → (j : ℕ) → j < 9 → get_or counts j 0 ≤ t
  tallied_small {t} A j l = rw A.counts_are (omega (arith, tally_at s p t j l, count_most t (λ u. p u && eqb (get_or s u 0) j)))

-- ---- one more tide, as a step of a loop

module _ {s : List ℕ} {p : ℕ → Bool} {t found : ℕ} {counts : List ℕ} (h : get_or s t 0 ≤ 8) (A : Tallied s p t found counts) where
  -- where tides are few and have one of the settings, the next can be counted
  pub tally_room : t ≤ max_tides → TallyRoom (get_or s t 0) found counts
  tally_room k =
      record {
        setting_high = h;
        small = λ j q. omega (arith, tallied_small A j q);
        few = omega (arith, tallied_few A);
      }

  -- it is, where it passes the test
  pub tally_step : {b : Bool} {found' : ℕ} {counts' : List ℕ} → b ≡ p t → found' ≡ found + bit b
      → counts' ≡ set counts (get_or s t 0) (get_or counts (get_or s t 0) 0 + bit b) → Tallied s p (t + 1) found' counts'
  tally_step {b} e f k = rw (f, k) (tallied_more (bit b) (get_or s t 0) A (ap bit e) refl (omega arith))

-- ---- the minima, from the counts

pub met_meets : (M : Minima) {s : List ℕ} {p : ℕ → Bool} {n found : ℕ} {counts : List ℕ} → Tallied s p n found counts
    → met M found counts ≡ meets M n (λ t. get_or s t 0) p
unfolding met meets
met_meets M {s} {p} {n} A =
    rw (A.found_is, A.counts_are)
    (ap (λ z. leb M.b0 (count_below n p) && z)
    (every_same 8 _ _ (λ j l. ap (leb (get_or M.b j 0)) (rw (add-one j) (tally_at s p n (suc j) (omega arith))))))
