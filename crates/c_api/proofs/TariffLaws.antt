-- From the bill of the tariff's core to Block's reply and to the twelve numbers that are written. Assumes nothing.
use Rattle.std.specs.Prelude.{◌≡◌, ℕ, List, [], ◌∷◌, ◌++◌, length, get_or, take, drop, replicate}
use native.Mathlib.Omega.{arith}
use mathlib.Core.Path.{refl, sym, ap, ◌∙◌}
use lib.ListN.{length-replicate}
use Rattle.lists.specs.Lists.{tabulate, over}
use Rattle.lists.proofs.Tables.{length_tabulate, tabulate_is}
use Rattle.study.specs.declared.BlockRecord.{BlockRecord}
use Rattle.study.specs.Refusals.{Numbered, accepted, refused, value, refusal, replied}
use Rattle.study.specs.Calls.{figures}
use Rattle.study.proofs.CallLaws.{reply_value}
use Rattle.validity.specs.Memory.{State, study_of, contents_of}
use Rattle.access.specs.Calls.{answer, reply, output}
use Rattle.access.specs.Calls.{lent as lent_to}
use Rattle.access.proofs.AccessLaws.{replies_refusal, reply_tells}
use Rattle.blocking.specs.declared.block.BlockRows.{BlockRows}
use Rattle.blocking.specs.Calls.{figure_numbers, makes_blocks}
use Rattle.blocking.specs.Rows.{no_record, Lending, RowsOf}
use Rattle.pricing.specs.Tariff.{shares}
use Rattle.priced_blocks.specs.declared.kernel.Priced.{Priced}
use Rattle.priced_blocks.specs.Calls.{price_numbers, prices_blocks, bill_numbers}
use Rattle.priced_blocks.proofs.ReplyLaws.{as_block, same_records}
use Rattle.c_api.proofs.OutputLaws.{front_over, reply_why, reply_numbers}
use Rattle.c_api.proofs.BlockLaws.{Lends}

-- ---- a row of the bill

-- eight places one by one are the list
pub eight_places : (l : List ℕ) → length l ≡ 8
    → get_or l 0 0 ∷ get_or l 1 0 ∷ get_or l 2 0 ∷ get_or l 3 0 ∷ get_or l 4 0 ∷ get_or l 5 0 ∷ get_or l 6 0 ∷ get_or l 7 0 ∷ [] ≡ l
unfolding tabulate
eight_places l e = tabulate_is 8 (λ i. get_or l i 0) 0 l e (λ i _. refl)

pub prices_lent : (list : List ℕ) → Lends list (prices_blocks list)
unfolding prices_blocks lent_to
prices_lent list records = refl

-- ---- the bill

module _ (s : State) (list : List ℕ) (room : ℕ) where
  -- what refuses the tariff refuses Block
  pub refused_as_block : {y : Numbered} → Lending room (λ records. refusal y ≡ reply s (prices_blocks list records))
      → Lending room (λ records. refusal y ≡ reply s (makes_blocks list records))
  refused_as_block p records k =
      replies_refusal s (makes_blocks list records) (sym (sym (as_block s list records) ∙ reply_why s (prices_blocks list records) (p records k)))

  pub tariff_why : {y : Numbered} → Lending room (λ records. refusal y ≡ reply s (prices_blocks list records))
      → Lending room (λ records. answer s (prices_blocks list records) ≡ refused y)
  tariff_why p records k = reply_why s (prices_blocks list records) (p records k)

  module _ (P : Priced) (p : Lending room (λ records. value (bill_numbers P) ≡ reply s (prices_blocks list records))) where
    told : (records : List BlockRecord) → length records ≡ room
        → (answer s (prices_blocks list records) ≡ accepted) × (bill_numbers P ≡ price_numbers (study_of s))
    unfolding prices_blocks contents_of
    told records k = reply_value (answer s (prices_blocks list records)) (price_numbers (study_of s)) (p records k ∙ reply_tells s _)

    -- Block's reply, taken out of the bill's
    pub priced_as_block : Lending room (λ records. value (figure_numbers P.figures) ≡ reply s (makes_blocks list records))
    unfolding makes_blocks contents_of
    priced_as_block records k =
        let y = told records k in
        let three : figure_numbers P.figures ≡ figure_numbers (figures (study_of s)) = ap (λ (l : List ℕ). take 3 l) y.1 in
        ap value three ∙ sym (reply_tells s _ ∙ ap (λ v. replied v (figure_numbers (figures (study_of s)))) (sym (as_block s list records) ∙ y.0))

    pub tariff_numbers : Lending room (λ records. (answer s (prices_blocks list records) ≡ accepted)
        × ((output s (prices_blocks list records)).numbers ≡ bill_numbers P))
    tariff_numbers records k = reply_numbers s (prices_blocks list records) (p records k)

    pub bill_eight : length P.shares ≡ 8
    unfolding shares
    bill_eight =
        ap (λ (l : List ℕ). length (drop 4 l)) (told (replicate room no_record) (length-replicate room no_record)).1
        ∙ length_tabulate {A = ℕ} 8 _

  pub bill_rows : {rows : BlockRows} → RowsOf s (prices_blocks list) room rows → RowsOf s (makes_blocks list) room rows
  bill_rows R = record { fits = R.fits; few = R.few; records = λ l k. R.records l k ∙ sym (same_records s list l) }

-- twelve numbers, copied to the front
pub written_bill : (P : Priced) {row new : List ℕ} (old : List ℕ) → length P.shares ≡ 8 → row ≡ bill_numbers P
    → new ≡ take 12 row ++ drop 12 old → new ≡ over (bill_numbers P) old
written_bill P {row} {new} old eight e q =
    let xs = bill_numbers P in
    let long : 12 ≡ length xs = omega (arith, eight) in
    q ∙ ap (λ ys. take 12 ys ++ drop 12 old) e ∙ ap (λ m. take m xs ++ drop m old) long ∙ front_over xs old
