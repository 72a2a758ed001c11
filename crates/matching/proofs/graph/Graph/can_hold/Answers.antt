-- One test for each part of an edge. Assumes nothing.
use mathlib.Core.Bool.{false≢true}
use mathlib.Core.Logic.{inl, inr, ⊎_elim}
use mathlib.Core.Path.{sym}
use borrow.Author.Tests.{eqb-true, eqb-false}
use Rattle.promise.proofs.Pairs.{allows_yes, allows_no}
use Rattle.matching.proofs.graph.Graph.can_hold.Goals as goal

pub returns-then-self-s-eq0 : goal.returns-then-self-s-eq0
returns-then-self-s-eq0 c = record { holds = λ e. absurd (false≢true e); fails = λ _ p. allows_no _ _ _ c.if-self-s-eq0.true p.may }

pub returns-then-kind-eq0 : goal.returns-then-kind-eq0
returns-then-kind-eq0 c =
    record {
      holds = λ _. record { may = allows_yes _ _ _ c.if-self-s-eq0.false; suits = inl c.if-kind-eq0.true };
      fails = λ e. absurd (eqb-false _ _ e c.if-kind-eq0.true);
    }

pub returns-else-kind-eq0 : goal.returns-else-kind-eq0
returns-else-kind-eq0 c =
    record {
      holds = λ e. record { may = allows_yes _ _ _ c.if-self-s-eq0.false; suits = inr (sym (eqb-true _ _ e)) };
      fails = λ e p. ⊎_elim c.if-kind-eq0.false (λ q. eqb-false _ _ e (sym q)) p.suits;
    }
