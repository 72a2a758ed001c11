-- The four ends of the search keep the promise. Assumes nothing.
use mathlib.Core.List.{List}
use mathlib.Core.Bool.{true, false, true≢false, false≢true}
use Prim.Native.Nat.{ℕ, ◌*◌, ◌<◌}
use mathlib.Core.Path.{◌≡◌}
use native.Mathlib.Omega.{arith}
use Rattle.study.specs.declared.Minima.{Minima}
use Rattle.promise.specs.Promise.{Promise, Nowhere}
use Rattle.promise.proofs.Enough.{enough_tides}
use Rattle.promise.specs.Promise.{meeting, Able}
use Rattle.promise.proofs.MeetingLaws.{meeting_least}
use Rattle.matching.specs.Matching.{Unsaturable}
use Rattle.matching.specs.Graph.{Edge, Saturated}
use Rattle.matching.specs.Slots.{Slots}
use Rattle.lists.specs.Lists.{TailKept}
use Rattle.lists.proofs.Tables.{tail_same, tail_trans}
use Rattle.matching.specs.Steps.{ListWritten}
use Rattle.matching.proofs.Correspondence.{no_assignment, written_assigned}

module _ {n blocks : ℕ} (M : Minima) (settings : List ℕ) {allowed list : List ℕ} where
  -- more slots than tides
  pub too_few : n < blocks * M.b0 → Promise n blocks (meeting M n settings) allowed list list false
  too_few h =
      record {
        found = λ e. absurd (false≢true e);
        none = λ _ D asg. let l = enough_tides n blocks M.b0 (meeting M n settings) _ D (meeting_least M n settings) asg in omega arith;
        tail = tail_same n list;
      }

  -- a tide may go nowhere
  pub no_place : {list₁ list₂ : List ℕ} → (t : ℕ) × (t < n) × Nowhere allowed t blocks → TailKept n list list₁ → TailKept n list₁ list₂
      → Promise n blocks (meeting M n settings) allowed list list₂ false
  no_place w re re' =
      record {
        found = λ e. absurd (false≢true e);
        none = λ _ D asg. w.2 (D w.0) (asg.below w.0 w.1) (asg.may w.0 w.1);
        tail = tail_trans re re';
      }

module _ {n blocks slots : ℕ} {M : Minima} {settings allowed list owner kind list' : List ℕ} (able : Able M n settings)
    (count : slots ≡ blocks * M.b0) (sl : Slots blocks M.b0 M.b owner kind) where
  -- no matching gives every slot a tide
  pub unsaturable : Unsaturable (Edge allowed settings owner kind) slots n → TailKept n list list'
      → Promise n blocks (meeting M n settings) allowed list list' false
  unsaturable un re =
      record {
        found = λ e. absurd (false≢true e);
        none = λ _ D asg. no_assignment n blocks M settings allowed owner kind D able sl asg (rw count at un);
        tail = re;
      }

  -- one does, and the list is written
  pub listed : {tide slot : List ℕ} → Saturated (Edge allowed settings owner kind) slots n slots tide slot
      → ListWritten n blocks slots allowed owner slot list' → TailKept n list list'
      → Promise n blocks (meeting M n settings) allowed list list' true
  listed {tide} {slot} sat wr re =
      record {
        found = λ _. written_assigned n blocks M settings allowed owner kind tide slot list' able.fit sl (rw count at sat) (rw count at wr);
        none = λ e. absurd (true≢false e);
        tail = re;
      }
