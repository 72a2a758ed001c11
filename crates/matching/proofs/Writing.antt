-- The turns of the loops that write a matching out as a list. Assumes nothing.
use mathlib.Core.Path.{◌≡◌, subst}
use mathlib.Core.List.{List}
use mathlib.Core.Bool.{true, false, true≢false, false≢true}
use Prim.Native.Nat.{ℕ, ◌+◌, ◌*◌, ◌≤◌, ◌<◌}
use native.Mathlib.Decide.{ℕ_discrete}
use native.Mathlib.Omega.{arith}
use lib.Dec.{T}
use lib.ListN.{length, set}
use lib.Seq.{get_or-set_same, get_or-set_other}
use Rattle.study.specs.Limits.{max_tides}
use Rattle.study.specs.declared.Minima.{Minima}
use Rattle.promise.specs.Promise.{allows, Room, Able, Nowhere}
use Rattle.lists.specs.Lists.{at, TailKept}
use Rattle.lists.proofs.Tables.{tail_same, tail_set}
use Rattle.matching.specs.Matching.{Matching}
use Rattle.matching.specs.Graph.{Edge, SizedGraph}
use Rattle.matching.specs.Slots.{Slots}
use Rattle.matching.specs.Steps.{Owned, BlockOf, ListWritten, ListAnswer}
use Rattle.matching.proofs.Correspondence.{slot_below, slot_kind}

-- the list as far as t
pub record WrittenTo (t n blocks slots : ℕ) (allowed owner slot list₀ list : List ℕ) : Type 0 where
  pub rest : TailKept n list₀ list
  pub done : ListWritten t blocks slots allowed owner slot list

pub write_start : {n blocks slots : ℕ} {allowed owner slot list : List ℕ} → WrittenTo 0 n blocks slots allowed owner slot list list
write_start {n} {list = list} =
    record {
      rest = tail_same n list;
      done = record { below = λ k l. absurd (omega arith); may = λ k l. absurd (omega arith); own = λ k l. absurd (omega arith) };
    }

module _ {t n blocks slots : ℕ} {allowed owner slot list₀ list : List ℕ} (wt : WrittenTo t n blocks slots allowed owner slot list₀ list) where
  pub write_more : {r : ℕ} → t < n → n ≤ length list₀ → BlockOf allowed owner slot blocks slots t r
      → WrittenTo (t + 1) n blocks slots allowed owner slot list₀ (set list t r)
  write_more {r} l m pl =
      record {
        rest = tail_set t r l wt.rest;
        done = record {
          below = λ k h. at_case (λ i x. x < blocks) k h (ℕ_discrete k t) pl.open_to.below (λ j. wt.done.below k j);
          may = λ k h. at_case (λ i x. T (allows allowed i x)) k h (ℕ_discrete k t) pl.open_to.may (λ j. wt.done.may k j);
          own = λ k h. at_case (λ i x. at slot i < slots → x ≡ at owner (at slot i)) k h (ℕ_discrete k t) pl.own (λ j. wt.done.own k j);
        };
      }
    where
      -- what holds of r at t, and of the list before t, holds of the new list up to t
      at_case : (P : ℕ → ℕ → Type 0) (k : ℕ) → k < t + 1 → Dec (k ≡ t) → P t r → (k < t → P k (at list k)) → P k (at (set list t r) k)
      at_case P k h (yes q) x y = rw (q, get_or-set_same list t r 0 (omega (arith, wt.rest.same_length))) x
      at_case P k h (no q) x y = rw (get_or-set_other list t k r 0 q) (y (omega arith))

  pub write_end : n ≤ t → t ≤ n → ListAnswer n blocks slots allowed owner slot list₀ list true
  write_end h k =
      let e : t ≡ n = omega arith in
      record {
        written = λ _. subst (λ (i : ℕ). ListWritten i blocks slots allowed owner slot list) e wt.done;
        none = λ q. absurd (true≢false q);
        rest = wt.rest;
      }

  -- the tide t may go nowhere
  pub write_none : t < n → Nowhere allowed t blocks → ListAnswer n blocks slots allowed owner slot list₀ list false
  write_none l nowhere = record { written = λ q. absurd (false≢true q); none = λ _. (t, l, nowhere); rest = wt.rest }

-- ---- what the parts of the search may assume

module _ {n blocks slots : ℕ} {M : Minima} {settings allowed owner kind : List ℕ} (count : slots ≡ blocks * M.b0)
    (sl : Slots blocks M.b0 M.b owner kind) where
  pub sized : {list : List ℕ} → n ≤ max_tides → Able M n settings → Room n blocks allowed list → blocks * M.b0 ≤ n
      → SizedGraph allowed settings owner kind slots n
  sized few able room fit =
      record {
        few_slots = omega arith;
        few_tides = few;
        allowed_long = room.allowed_long;
        settings_long = able.settings_long;
        blocks = λ s l. omega (arith, slot_below blocks M.b0 M.b owner kind sl s (omega arith), room.few_blocks);
        kind_high = λ s l. slot_kind blocks M.b0 M.b owner kind sl s (omega arith);
        high = able.setting_high;
      }

  pub owned : {tide slot : List ℕ} → Matching (Edge allowed settings owner kind) slots n tide slot → (t : ℕ) → t < n
      → Owned allowed owner slot blocks slots t
  owned {slot = slot} v t tl =
      record {
        below = λ h. slot_below blocks M.b0 M.b owner kind sl (at slot t) (omega arith);
        may = λ h. let e = v.back t tl h in subst (λ (u : ℕ). T (allows allowed u (at owner (at slot t)))) e (v.edge (at slot t) h (rw e tl)).may;
      }
