-- What the caller of an accepted inquiry learns of what is held. Assumes nothing.
use mathlib.Core.Path.{◌≡◌, sym, ap, ◌∙◌}
use mathlib.Core.Bool.{true, false}
use mathlib.Core.Option.{some}
use Rattle.study.specs.Refusals.{Verdict, accepted, settled, first_of}
use Rattle.study.proofs.LadderLaws.{ladder_accepts}
use Rattle.access.specs.Calls.{Inquiry, Output, asks, Holding, reasons, verdict, told, lent, Response, learnt}

module _ (H : Holding) (Q : Inquiry) {o : Output} (e : learnt false (some H) (asks Q) ≡ record { verdict = accepted; output = o }) where
  agreed : verdict false (some H) (asks Q) ≡ accepted
  unfolding learnt
  agreed = ap (λ (r : Response). r.verdict) e

  pub inquiry_accepts : first_of (Q.own H) ≡ accepted
  unfolding verdict reasons
  inquiry_accepts = (ladder_accepts false Q.caller.users true (Q.own H) agreed).reasons

  pub inquiry_tells : Q.tells H ≡ o
  unfolding learnt told lent
  inquiry_tells = sym (ap (λ (v : Verdict). settled v (Q.tells H) Q.lent) agreed) ∙ ap (λ (r : Response). r.output) e
