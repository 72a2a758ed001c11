-- From the answer of the closure to what the call for C answers and writes. Assumes nothing.
use Rattle.std.specs.Prelude.{◌≡◌, ℕ, ◌<◌, ◌≤◌, List, [], ◌∷◌, length, set, Result, Ok, Err}
use native.Mathlib.Omega.{arith}
use mathlib.Core.Path.{sym, ap, ◌∙◌, subst}
use Rattle.lists.specs.Lists.{over}
use Rattle.study.specs.declared.Refusal.{Refusal}
use Rattle.study.specs.Refusals.{numbered, accepted, refused, settled}
use Rattle.study.proofs.CallLaws.{reply_refused, reply_value}
use Rattle.metric_closure.specs.Closure.{lowered_pairs}
use Rattle.metric_closure.specs.Call.{entry, close_reasons, close_verdict, closed_table, close_answer, close_leaves, closed_of}
use Rattle.metric_closure.proofs.ClosureLaws.{lowered_few}
use Rattle.metric_closure.proofs.TableLaws.{few_places}
use Rattle.metric_closure.proofs.Proofs.{for_call}
use Rattle.c_records.specs.Record.{code}
use Rattle.c_api.specs.Api.{room_first, mend_verdict, mend_table, mend_result}
use Rattle.c_records.specs.Records.{Narrow}
use Rattle.c_records.proofs.CodeLaws.{small, first_narrow}
use Rattle.c_api.proofs.CallLaws.{lacks_yes, lacks_no}
use Rattle.c_api.proofs.OutputLaws.{first_set}

-- ---- the answer of the closure

module _ (n : ℕ) (table : List ℕ) (a : Result ℕ Refusal) (p : closed_of a ≡ close_answer n table) where
  mend_why : {why : Refusal} → a ≡ Err why → close_verdict n table ≡ refused (numbered why)
  unfolding close_answer
  mend_why e = reply_refused (close_verdict n table) (lowered_pairs n (entry n table)) (sym (ap closed_of e) ∙ p)

  pub mend_narrow : {why : Refusal} → a ≡ Err why → Narrow (refused (numbered why))
  unfolding close_verdict close_reasons
  mend_narrow e = subst Narrow (mend_why e) (first_narrow (close_reasons n table) (small tt, (small tt, (small tt, (small tt, tt)))))

  mend_value : {lowered : ℕ} → a ≡ Ok lowered → (close_verdict n table ≡ accepted) × (lowered ≡ lowered_pairs n (entry n table))
  unfolding close_answer
  mend_value e = reply_value (close_verdict n table) (lowered_pairs n (entry n table)) (sym (ap closed_of e) ∙ p)

  pub pairs_fit : {lowered : ℕ} → a ≡ Ok lowered → lowered < 4294967296
  pairs_fit e =
      let y = mend_value e in
      let few = ((for_call n table).exactly.0 y.0).few in
      omega (arith, y.1, lowered_few n (entry n table), few_places n few)

-- ---- the call

module _ (n : ℕ) (table result : List ℕ) where
  pub mend_too_short : length result < 1
      → (1 ≡ code (mend_verdict n table result)) × ((table ≡ mend_table n table result) × (result ≡ mend_result n table result))
  unfolding mend_verdict mend_table mend_result room_first
  mend_too_short h = let e = lacks_yes 1 result h in (rw e, (rw e, rw e))

  module _ (enough : 1 ≤ length result) (a : Result ℕ Refusal) {new : List ℕ} (p : closed_of a ≡ close_answer n table) (t : new ≡ close_leaves n table) where
    -- the pairs lowered, written
    abbrev pairs : List ℕ
    pairs = over (lowered_pairs n (entry n table) ∷ []) result

    verdict_is : close_verdict n table ≡ mend_verdict n table result
    unfolding mend_verdict room_first
    verdict_is = rw (lacks_no 1 result enough)

    tabled : new ≡ mend_table n table result
    unfolding close_leaves mend_table
    tabled = t ∙ ap (λ v. settled v (closed_table n table) table) verdict_is

    pub mend_refused : {why : Refusal} {c : ℕ} → a ≡ Err why → c ≡ code (refused (numbered why))
        → (c ≡ code (mend_verdict n table result)) × ((new ≡ mend_table n table result) × (result ≡ mend_result n table result))
    unfolding mend_result
    mend_refused e f =
        let y = sym verdict_is ∙ mend_why n table a p e in
        (f ∙ ap code (sym y), (tabled, ap (λ v. settled v pairs result) (sym y)))

    pub mend_done : {lowered : ℕ} → a ≡ Ok lowered
        → (0 ≡ code (mend_verdict n table result)) × ((new ≡ mend_table n table result) × (set result 0 lowered ≡ mend_result n table result))
    unfolding mend_result
    mend_done {lowered} e =
        let v = mend_value n table a p e in
        let y = sym verdict_is ∙ v.0 in
        let one = first_set lowered result enough ∙ ap (λ z. over (z ∷ []) result) v.1 in
        (ap code (sym y), (tabled, one ∙ ap (λ v. settled v pairs result) (sym y)))
