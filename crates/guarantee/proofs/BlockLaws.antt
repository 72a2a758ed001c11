-- What Block tells of a valid study: the guarantee where it is accepted, and reason 25 exactly where no partition is feasible. Assumes
-- nothing.
use Prim.Native.Nat.{ℕ, ◌≤◌, ◌<◌}
use native.Mathlib.Omega.{arith}
use mathlib.Core.Path.{◌≡◌, refl, sym, ap, ap₂, ◌∙◌, subst}
use mathlib.Core.Logic.{⊎_elim, ◌↔◌}
use mathlib.Core.Bool.{Bool, true, false, cond, not, ◌&&◌}
use mathlib.Core.List.{List, ◌++◌}
use mathlib.Core.Option.{some}
use lib.Dec.{T, leb, eqb, eqb→eq, not_T, T_not}
use lib.ListN.{length, drop, get_or, length-append, get_or-append}
use borrow.Author.Tests.{ne_eqb}
use Rattle.lists.specs.Lists.{overwrite, over}
use Rattle.lists.proofs.Tests.{not_not, split, eq→eqb}
use Rattle.lists.proofs.Counting.{nth, nth_is}
use Rattle.study.specs.declared.BlockRecord.{BlockRecord}
use Rattle.study.specs.Problem.{Problem, centres, block, labels, radius, blocking, Feasible}
use Rattle.study.specs.Study.{Study, size, tide, sufficient, problem, Valid}
use Rattle.study.specs.Refusals.{number, Verdict, accepted, refused, settled, first_of, fresh_reasons, held_reasons}
use Rattle.study.specs.declared.Figures.{Figures}
use Rattle.study.specs.Calls.{block_reasons, figures, block_record}
use Rattle.study.specs.Theorems.{Lawful, Canonical, ValidContents}
use Rattle.study.proofs.ProblemLaws.{greatest_diameter_is, greatest_diameter_same}
use Rattle.study.proofs.Approximation.{assignment_feasible}
use Rattle.study.proofs.StudyLaws.{meets-T, valid_minima-T}
use Rattle.study.proofs.CallLaws.{none_holds}
use Rattle.study.proofs.Proofs.{for_problem, for_study}
use Rattle.pricing.specs.Tariff.{total, shares}
use Rattle.pricing.specs.Theorems.{StudyShares}
use Rattle.pricing.proofs.Proofs.{every_study}
use Rattle.access.specs.Calls.{Inquiry, Output, first_list, Holding, reasons, verdict, told, lent, Response, learnt}
use Rattle.blocking.specs.Calls.{block_inquiry, figure_numbers, makes_blocks}
use Rattle.priced_blocks.specs.Calls.{price_numbers, prices_blocks}
use Rattle.guarantee.specs.Theorems.{Guaranteed, CanonicalBlock, blocked, charged}
use Rattle.guarantee.proofs.InquiryLaws.{inquiry_accepts, inquiry_tells}

-- ---- a valid study whose tides together are sufficient

-- whether a partition is feasible depends on what it gives the tides alone
feasible_same : (P : Problem) → Lawful P → (D E : ℕ → ℕ) → ((t : ℕ) → t < P.size → D t ≡ E t) → Feasible P D → Feasible P E
unfolding block
feasible_same P L D E e F t l = L.upward (block D (D t)) (block E (E t)) (λ u k h. subst T (ap₂ eqb (e u k) (e t l)) h) (F t l)

module _ (S : Study) (ok : Valid S) (enough : T (sufficient S (λ t. true))) where
  abbrev P : Problem
  P = problem S

  lawful : Lawful P
  lawful = (for_study S ok).lawful

  canonical : Canonical P
  unfolding problem
  canonical = (for_problem P lawful).canonical enough

  -- each block has a tide, since b0 is at least 1
  occupied : (m : ℕ) → 1 ≤ m → m ≤ length (centres P (radius P)) → (t : ℕ) × (t < size S) × (labels (blocking P) t ≡ m)
  unfolding problem sufficient block
  occupied m a b =
      let p = block (labels (blocking P)) m in
      let w = ((meets-T S.minima (size S) (λ t. (tide S t).setting) p).0 (canonical.assignment.enough m a b)).whole in
      let N = nth_is p (size S) 0 (omega (arith, ((valid_minima-T S.k S.minima).0 ok.minima).low)) in
      (nth p (size S) 0, N.below, eqb→eq _ m N.pass)

  -- the list that Block leaves: the blocking, then what stood past it
  module _ (past : List ℕ) where
    abbrev list : List ℕ
    list = blocking P ++ past

    long : length (blocking P) ≡ size S
    unfolding problem
    long = canonical.assignment.long

    same_labels : (t : ℕ) → t < size S → labels (blocking P) t ≡ labels list t
    unfolding labels
    same_labels t l = sym (get_or-append (blocking P) past 0 t (omega (arith, long)))

    low : (t : ℕ) → t < size S → 1 ≤ labels list t
    unfolding problem
    low t l = omega (arith, same_labels t l, canonical.assignment.low t l)

    high : (t : ℕ) → t < size S → labels list t ≤ length (centres P (radius P))
    unfolding problem
    high t l = omega (arith, same_labels t l, canonical.assignment.high t l)

    guaranteed : Guaranteed S (figures S) list
    unfolding figures problem
    guaranteed =
        let f = assignment_feasible P (radius P) (blocking P) canonical.assignment in
        let w = greatest_diameter_same P (labels (blocking P)) (labels list) same_labels in
        record {
          long = omega (arith, length-append (blocking P) past, long);
          low = low;
          high = high;
          used = λ m a b. let o = occupied m a b in (o.0, o.1, sym (same_labels o.0 o.1) ∙ o.2);
          feasible = feasible_same P lawful (labels (blocking P)) (labels list) same_labels f;
          widest = w;
          of_blocks = w ∙ greatest_diameter_is P (labels list) (length (centres P (radius P))) low high;
          bounded = (for_study S ok).bounded;
        }

-- ---- what an accepted Block tells, of a valid study

-- where there is a tide, 25 is answered exactly when all tides together are not sufficient
own_25 : (S : Study) (list records : ℕ) → 0 < size S → (first_of (block_reasons S list records) ≡ refused (number 25)) ↔ T (not (sufficient S (λ t. true)))
unfolding block_reasons first_of
own_25 S list records l =
    rw (ne_eqb (size S) 0 (λ e. omega arith)) (by (sufficient S (λ t. true)) (leb (size S) list && leb (size S) records))
  where
    by : (enough room : Bool)
        → (cond (not enough) (refused (number 25)) (cond (not room) (refused (number 1)) accepted) ≡ refused (number 25)) ↔ T (not enough)
    by true true = (λ q. let z : ◌≡◌ {A = ℕ} 0 1 = cc in omega arith, λ t. absurd t)
    by true false = (λ q. let z : ◌≡◌ {A = ℕ} 1 25 = cc in omega arith, λ t. absurd t)
    by false room = (λ q. tt, λ t. refl)

-- figures are known by their numbers
abbrev figures_by : List ℕ → Figures
figures_by ns = record { blocks = get_or ns 0 0; radius = get_or ns 1 0; widest = get_or ns 2 0 }

pub block_25 : (S : Study) → Valid S → (list records : ℕ) → 0 < size S
    → (first_of (block_reasons S list records) ≡ refused (number 25)) ↔ ((D : ℕ → ℕ) → Feasible (problem S) D → ⊥)
unfolding problem
block_25 S ok list records l =
    let enough = sufficient S (λ t. true) in
    let X = (for_problem (problem S) (for_study S ok).lawful).feasible_exactly l in
    let R = own_25 S list records l in (
      λ q D f. T_not enough (R.0 q) (X.0 (D, f)),
      λ f. R.1 (not_T enough (λ t. let d = X.1 t in f d.0 d.1)),
    )

module _ (H : Holding) (ok : ValidContents H.contents) where
  abbrev S : Study
  S = H.contents.study

  -- an accepted Block tells the study's figures, the list and the records
  pub block_shaped : (list₀ : List ℕ) (records₀ : List BlockRecord) → verdict false (some H) (makes_blocks list₀ records₀) ≡ accepted
      → learnt false (some H) (makes_blocks list₀ records₀)
      ≡ blocked (figures S) (over (blocking (problem S)) list₀) (overwrite (figures S).blocks (block_record S) records₀)
  unfolding makes_blocks learnt told lent
  block_shaped list₀ records₀ e =
      let Q = block_inquiry (λ S. figure_numbers (figures S)) list₀ records₀ in
      let respond : Verdict → Response = λ v. record { verdict = v; output = settled v (Q.tells H) Q.lent } in
      ap respond e

  -- the call is accepted, and its caller learns figures F, a list and records
  module _ (list₀ list : List ℕ) (records₀ records : List BlockRecord) (F : Figures)
      (e : learnt false (some H) (makes_blocks list₀ records₀) ≡ blocked F list records) where
    abbrev Q : Inquiry
    Q = block_inquiry (λ S. figure_numbers (figures S)) list₀ records₀

    accepts : first_of (block_reasons S (length list₀) (length records₀)) ≡ accepted
    unfolding makes_blocks
    accepts = inquiry_accepts H Q e

    tells : Q.tells H ≡ (blocked F list records).output
    unfolding makes_blocks
    tells = inquiry_tells H Q e

    ample : T (sufficient S (λ t. true))
    unfolding block_reasons
    ample = not_not (sufficient S (λ t. true)) (none_holds (block_reasons S (length list₀) (length records₀)) accepts).1.0

    figures_are : figures S ≡ F
    unfolding figures
    figures_are = ap (λ (o : Output). figures_by o.numbers) tells

    list_is : over (blocking (problem S)) list₀ ≡ list
    list_is = ap (λ (o : Output). first_list o.lists) tells

    records_are : overwrite (figures S).blocks (block_record S) records₀ ≡ records
    records_are = ap (λ (o : Output). o.records) tells

    pub block_guaranteed : Guaranteed S F list
    block_guaranteed =
        subst (λ G. Guaranteed S G list) figures_are
        (subst (Guaranteed S (figures S)) list_is (guaranteed S ok.study ample (drop (length (blocking (problem S))) list₀)))

    -- the tariff
    pub block_charged : learnt false (some H) (prices_blocks list₀ records₀) ≡ charged F (total S) (shares S) list records
    unfolding prices_blocks learnt told lent verdict reasons held_reasons fresh_reasons first_of
    block_charged =
        let T = block_inquiry price_numbers list₀ records₀ in
        let respond : Verdict → Response = λ v. record { verdict = v; output = settled v (T.tells H) T.lent } in
        ap respond accepts ∙ (λ i. charged (figures_are i) (total S) (shares S) (list_is i) (records_are i))

    pub block_shared : StudyShares S
    unfolding block_reasons
    block_shared =
        let none = (none_holds (block_reasons S (length list₀) (length records₀)) accepts).0 in
        every_study S ok.study
        (⊎_elim (λ l. l) (λ l. absurd (T_not (eqb (size S) 0) none (eq→eqb (size S) 0 (omega arith)))) (split 0 (size S)))

    pub block_canonical : CanonicalBlock S F list₀ list records₀ records
    unfolding figures
    block_canonical =
        subst (λ G. CanonicalBlock S G list₀ list records₀ records) figures_are
        (record {
          radius = refl;
          blocks = refl;
          widest = refl;
          list_is = sym list_is;
          records_are = sym records_are;
          canonical = canonical S ok.study ample;
        })
