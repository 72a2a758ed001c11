-- The ladder of reasons that calls share, and a call's own behind it: what an accepted call tells, and what a refused one and two that are
-- alike answer. Assumes nothing.
use Prim.Native.Nat.{ℕ}
use mathlib.Core.Path.{◌≡◌, refl, sym, subst}
use mathlib.Core.Bool.{Bool, true, false}
use mathlib.Core.List.{List, []}
use Rattle.lists.specs.Lists.{all_of}
use Rattle.lists.proofs.Tests.{T_true, T_false, not_not}
use Rattle.study.specs.Refusals.{Numbered, Verdict, accepted, refused, settled, Reason, first_of, fresh_reasons, is_user, held_reasons}
use Rattle.study.proofs.CallLaws.{none_holds}
use Rattle.study.proofs.ReasonLaws.{first_of_append, first_of_sooner, first_of_both, first_of_after}

-- none of the ladder's reasons holds, and none of the call's own
pub record Accepts (is_too_short : Bool) (users : List ℕ) (good : Bool) (own : List Reason) : Type 0 where
  pub not_short : is_too_short ≡ false
  pub known : all_of is_user users ≡ true
  pub tested : good ≡ true
  pub reasons : first_of own ≡ accepted

module _ (is_too_short : Bool) (users : List ℕ) (good : Bool) where
  -- the ladder alone
  abbrev ladder : List Reason
  ladder = held_reasons is_too_short users good []

  pub ladder_accepts : (own : List Reason) → first_of (held_reasons is_too_short users good own) ≡ accepted → Accepts is_too_short users good own
  unfolding held_reasons fresh_reasons
  ladder_accepts own e =
      let both = (first_of_both ladder own).0 e in
      let none = none_holds ladder both.0 in
      record {
        not_short = T_false is_too_short none.0;
        known = T_true (all_of is_user users) (not_not (all_of is_user users) none.1.0);
        tested = T_true good (not_not good none.1.1.0);
        reasons = both.1;
      }

  -- what the ladder refuses is refused, whatever the call's own reasons
  pub ladder_refuses : (own : List Reason) {r : Numbered} → first_of (held_reasons is_too_short users good []) ≡ refused r
      → first_of (held_reasons is_too_short users good own) ≡ refused r
  unfolding held_reasons fresh_reasons
  ladder_refuses own e = first_of_sooner ladder own e

  -- what holds of the ladder's answer, and of the call's own past the ladder, holds of the call's answer
  pub ladder_either : (P : Verdict → Type 0) (own : List Reason) → P (first_of (held_reasons is_too_short users good []))
      → (Accepts is_too_short users good [] → P (first_of own)) → P (first_of (held_reasons is_too_short users good own))
  unfolding held_reasons fresh_reasons
  ladder_either P own p q = subst P (sym (first_of_append ladder own)) (by (first_of ladder) p (λ e. q (ladder_accepts [] e)))
    where
      by : (v : Verdict) → P v → (v ≡ accepted → P (first_of own)) → P (settled v (first_of own) v)
      by accepted p f = f refl
      by (refused r) p f = p

-- the same answer, where the users are known alike and, past the ladder, the calls' own answers are the same
pub ladder_same : (is_too_short : Bool) (users users' : List ℕ) (good : Bool) (own own' : List Reason) → all_of is_user users' ≡ all_of is_user users
    → (Accepts is_too_short users good [] → first_of own' ≡ first_of own)
    → first_of (held_reasons is_too_short users' good own') ≡ first_of (held_reasons is_too_short users good own)
unfolding held_reasons fresh_reasons
ladder_same is_too_short users users' good own own' e f =
    rw e (first_of_after (held_reasons is_too_short users good []) own' own (λ a. f (ladder_accepts is_too_short users good [] a)))
