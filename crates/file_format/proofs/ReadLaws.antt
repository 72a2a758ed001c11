-- Read's reasons taken apart: those before any tide, and those of each tide. Assumes nothing.
use Prim.Native.Nat.{ℕ, ◌+◌, ◌-◌, ◌*◌, ◌≤◌, ◌<◌}
use native.Mathlib.Omega.{arith}
use mathlib.Core.Path.{◌≡◌, ◌∙◌, subst}
use mathlib.Core.Logic.{◌⊎◌, inl, inr, ⊎_elim, ◌↔◌}
use mathlib.Core.Bool.{Bool, true, false, not, ◌&&◌, ◌||◌}
use mathlib.Core.List.{List, flat_map}
use lib.Dec.{T, ltb, eqb, nltb→le, eqb→eq, not_T}
use lib.Arith.{le→nltb}
use lib.ListN.{length}
use Rattle.lists.specs.Lists.{between, iota, is_empty}
use Rattle.lists.proofs.Tests.{not_not, split, eq→eqb, between-T}
use Rattle.study.specs.Study.{Study, size, tide, distance, valid_minima}
use Rattle.study.specs.Refusals.{Numbered, number, accepted, refused, Reason, first_of}
use Rattle.study.specs.Calls.{Pair, violations, first_violation}
use Rattle.study.proofs.CallLaws.{none_holds}
use Rattle.file_format.specs.Bits.{bits_at}
use Rattle.file_format.specs.File.{new_mark, old_mark, bit_length, byte_length, mark_of, counts_in, minima_at, decoded, head_reasons}
use Rattle.file_format.specs.File.{tide_reasons, read_reasons}
use Rattle.file_format.proofs.DecodedLaws.{decoded_setting}
use Rattle.study.proofs.ReasonLaws.{first_of_later, first_of_sooner, first_of_both, holds_none, refused_at, none_of_runs, first_of_runs}
use Rattle.file_format.specs.Head.{Head, Clear}

-- ---- what it says that none of a part holds

not_not_of : (b : Bool) → T b → T (not (not b))
not_not_of true t = tt
not_not_of false t = t

-- one of two numbers
pub either-T : (x a b : ℕ) → T (eqb x a || eqb x b) ↔ ((x ≡ a) ⊎ (x ≡ b))
either-T x a b = (
  told (eqb x a) (eqb x b) (eqb→eq x a) (eqb→eq x b),
  ⊎_elim (λ e. or_left (eqb x a) (eqb x b) (eq→eqb x a e)) (λ e. or_right (eqb x a) (eqb x b) (eq→eqb x b e)),
)
  where
    told : (p q : Bool) → (T p → x ≡ a) → (T q → x ≡ b) → T (p || q) → (x ≡ a) ⊎ (x ≡ b)
    told true q f g t = inl (f tt)
    told false q f g t = inr (g t)

    or_left : (p q : Bool) → T p → T (p || q)
    or_left true q t = tt
    or_left false q t = elim t [ ]

    or_right : (p q : Bool) → T q → T (p || q)
    or_right true q t = tt
    or_right false q t = t

-- where x is a, n is not below b
pub unless-T : (x a n b : ℕ) → T (not (eqb x a && ltb n b)) ↔ (x ≡ a → b ≤ n)
unless-T x a n b = (λ t e. told (eqb x a) (eq→eqb x a e) t, λ f. tested (eqb x a) (λ t. f (eqb→eq x a t)))
  where
    told : (p : Bool) → T p → T (not (p && ltb n b)) → b ≤ n
    told true p t = nltb→le n b t
    told false p t = elim p [ ]

    tested : (p : Bool) → (T p → b ≤ n) → T (not (p && ltb n b))
    tested true f = le→nltb n b (f tt)
    tested false f = tt

pub head-T : (s : List ℕ) → (first_of (head_reasons s) ≡ accepted) ↔ Head s
unfolding head_reasons
head-T s = (
  λ e. let h = none_holds (head_reasons s) e in
      let after = h.1.1.1 in
      let b = (between-T 1 8 k).0 (not_not (between 1 8 k) after.1.0) in
      let last = after.1.1 in
      record {
        six = nltb→le (length s) 6 h.0;
        mark = (either-T (mark_of s) new_mark old_mark).0 (not_not (eqb (mark_of s) new_mark || eqb (mark_of s) old_mark) h.1.0);
        twelve = (unless-T (mark_of s) new_mark (length s) 12).0 h.1.1.0;
        few = nltb→le 120 n after.0;
        k_low = b.0;
        k_high = b.1;
        long = eqb→eq (length s) bytes (not_not (eqb (length s) bytes) last.0);
        minima = not_not (valid_minima k (minima_at s k)) last.1.0;
        filled = eqb→eq fill 0 (not_not (eqb fill 0) last.1.1.0);
      },
  λ h. let marked = not_not_of (eqb (mark_of s) new_mark || eqb (mark_of s) old_mark) ((either-T (mark_of s) new_mark old_mark).1 h.mark) in
      let twelve = (unless-T (mark_of s) new_mark (length s) 12).1 h.twelve in
      let few = le→nltb 120 n h.few in
      let settings = not_not_of (between 1 8 k) ((between-T 1 8 k).1 (h.k_low, h.k_high)) in
      let long = not_not_of (eqb (length s) bytes) (eq→eqb (length s) bytes h.long) in
      let minima = not_not_of (valid_minima k (minima_at s k)) h.minima in
      let filled = not_not_of (eqb fill 0) (eq→eqb fill 0 h.filled) in
      holds_none (head_reasons s) (le→nltb (length s) 6 h.six, (marked, (twelve, (few, (settings, (long, (minima, (filled, tt)))))))),
)
  where
    n : ℕ
    n = bits_at s 8 7

    k : ℕ
    k = bits_at s 15 4

    bytes : ℕ
    bytes = byte_length (counts_in s) (bits_at s 15 4) (bits_at s 8 7)

    fill : ℕ
    fill =
        let end = bit_length (counts_in s) (bits_at s 15 4) (bits_at s 8 7) in bits_at s end (8 * length s - end)

-- the pairs of earlier tides that violate the triangle inequality with tide t
abbrev pub violations_at : Study → ℕ → List Pair
violations_at S t = violations (distance S) t (distance S t)

-- none of tide t holds
pub record Fits (S : Study) (t : ℕ) : Type 0 where
  pub low : 1 ≤ (tide S t).setting
  pub high : (tide S t).setting ≤ S.k
  pub obeyed : T (is_empty (violations_at S t))

pub fits-T : (S : Study) (t : ℕ) → (first_of (tide_reasons S t) ≡ accepted) ↔ Fits S t
unfolding tide_reasons
fits-T S t =
    let set = between 1 S.k (tide S t).setting in
    let both = between-T 1 S.k (tide S t).setting in (
      λ e. let h = none_holds (tide_reasons S t) e in
          let b = both.0 (not_not set h.0) in
          record { low = b.0; high = b.1; obeyed = not_not (is_empty (violations_at S t)) h.1.0 },
      λ f. holds_none (tide_reasons S t) (not_not_of set (both.1 (f.low, f.high)), (not_not_of (is_empty (violations_at S t)) f.obeyed, tt)),
    )

-- ---- the whole list

module _ (s : List ℕ) where
  abbrev S : Study
  S = (decoded s).study

  abbrev of_tides : List Reason
  of_tides = flat_map (tide_reasons (decoded s).study) (iota 0 (size (decoded s).study))

  -- a reason before any tide
  pub refused_head : {r : Numbered} → first_of (head_reasons s) ≡ refused r → first_of (read_reasons s) ≡ refused r
  unfolding read_reasons
  refused_head e = first_of_sooner (head_reasons s) of_tides e

  pub clear_none : first_of (head_reasons s) ≡ accepted → Clear s 0
  clear_none e = record { head = e; tides = λ u l. absurd (omega arith) }

  -- no reason holds
  pub accepted-T : (first_of (read_reasons s) ≡ accepted) ↔ Clear s (size (decoded s).study)
  unfolding read_reasons
  accepted-T =
      let both = first_of_both (head_reasons s) of_tides in
      let runs = none_of_runs (tide_reasons S) 0 (size S) in (
        λ e. record { head = (both.0 e).0; tides = λ u l. runs.0 (both.0 e).1 u (omega arith) (omega arith) },
        λ c. both.1 (c.head, runs.1 (λ u a b. c.tides u (omega arith))),
      )

  -- the next tide
  module _ (t : ℕ) (c : Clear s t) (held : t < size (decoded s).study) where
    refused_tide : {r : Numbered} → first_of (tide_reasons S t) ≡ refused r → first_of (read_reasons s) ≡ refused r
    unfolding read_reasons
    refused_tide e =
        first_of_later (head_reasons s) of_tides c.head
        ∙ first_of_runs (tide_reasons S) 0 (size S) t (omega arith) (omega arith) (λ u a b. c.tides u b) e

    abbrev set? : Bool
    set? = between 1 (decoded s).study.k (tide (decoded s).study t).setting

    set : (tide S t).setting ≤ S.k → T set?
    set h = (between-T 1 S.k (tide S t).setting).1 (omega (arith, decoded_setting s t held), h)

    pub refused_five : (decoded s).study.k < (tide (decoded s).study t).setting → first_of (read_reasons s) ≡ refused (number 5)
    unfolding tide_reasons
    refused_five h = refused_tide (refused_at (tide_reasons S t) 0 tt (not_T set? (λ x. omega (arith, (between-T 1 S.k (tide S t).setting).0 x))))

    pub refused_seven : (tide (decoded s).study t).setting ≤ (decoded s).study.k → T (not (is_empty (violations_at (decoded s).study t)))
        → first_of (read_reasons s) ≡ refused (first_violation (violations_at (decoded s).study t))
    unfolding tide_reasons
    refused_seven h b = refused_tide (refused_at (tide_reasons S t) 1 (not_not_of set? (set h), tt) b)

    pub clear_more : (tide (decoded s).study t).setting ≤ (decoded s).study.k → T (is_empty (violations_at (decoded s).study t)) → Clear s (t + 1)
    clear_more h b =
        let e = (fits-T S t).1 (record { low = omega (arith, decoded_setting s t held); high = h; obeyed = b }) in
        record {
          head = c.head;
          tides = λ u l. ⊎_elim (c.tides u) (λ k. let q : t ≡ u = omega arith in subst (λ z. first_of (tide_reasons S z) ≡ accepted) q e) (split u t);
        }
